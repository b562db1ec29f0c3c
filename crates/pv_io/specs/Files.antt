-- The files of a shelf, by their names.
use Rattle.std.specs.Prelude.{◌≡◌, ℕ, ◌<◌, ◌≤◌, List, [], ◌∷◌, length, if◌then◌else◌, Bool, true}
use Rattle.std.specs.Prelude.{false, Result, Ok, Err, Option, Some, None, Vec, String}
use Rattle.std.specs.Prelude.{string_bytes, map, take, drop, ◌++◌}
use Rattle.std.specs.Str.{bytes_eq}
use Rattle.std.specs.declared.alloc.Global.{Global}
use Rattle.pv_io.specs.Causes.{CountStays, Rose}
use Rattle.pv_io.specs.declared.shelf.FetchError.{FetchError}
use Rattle.pv_io.specs.declared.shelf.FetchError.TheVariants.{Failed, TooLong, NoMemory}

-- what a shelf tells of its files, where it tells them: the first with a name is the file of that
-- name; how often it was asked, whatever it answered; and how often it failed
pub record ShelfNow : Type 0 where
  pub files : Option (List (List ℕ × List ℕ))
  pub calls : ℕ
  pub faults : ℕ

-- the file of the first pair with this name
abbrev pub file_named : List ℕ → List (List ℕ × List ℕ) → Option (List ℕ)
file_named name [] = None
file_named name (file ∷ files) =
    if bytes_eq name file.0 then Some file.1 else file_named name files

-- there is a file, and it has more than so many bytes
abbrev pub HoldsMore : Option (List ℕ) → ℕ → Type 0
HoldsMore None most = ⊥
HoldsMore (Some bytes) most = most < length bytes

-- what a fetch of at most so many bytes may answer for a file, or for a name without one
abbrev pub FetchGives : Option (List ℕ) → ℕ → Result (Vec ℕ Global) FetchError → Type 0
FetchGives (Some bytes) most (Ok v) = (v.items ≡ bytes) × (length bytes ≤ most)
FetchGives (Some bytes) most (Err Failed) = length bytes ≤ most
FetchGives (Some bytes) most (Err TooLong) = most < length bytes
FetchGives None most (Err Failed) = Unit {0}
FetchGives _ most (Err NoMemory) = Unit {0}
FetchGives None most _ = ⊥

-- what a fetch of at most so many bytes may answer for a name, where the shelf tells its files
abbrev pub FetchTells : Option (List (List ℕ × List ℕ)) → List ℕ → ℕ →
    Result (Vec ℕ Global) FetchError → Type 0
FetchTells None name most result = Unit {0}
FetchTells (Some files) name most result = FetchGives (file_named name files) most result

-- a fetch that answers `Failed` counted a fault, and every other fetch counted none
abbrev pub FetchCountsFault : ℕ → ℕ → Result (Vec ℕ Global) FetchError → Type 0
FetchCountsFault before now (Err Failed) = Rose before now
FetchCountsFault before now _ = CountStays before now

-- whether a fetch was a fault of the shelf
abbrev pub is_fault : Result (Vec ℕ Global) FetchError → Bool
is_fault (Ok v) = false
is_fault (Err Failed) = true
is_fault (Err TooLong) = false
is_fault (Err NoMemory) = false

-- texts, as lists of bytes
abbrev pub byte_lists : List (String Global) → List (List ℕ)
byte_lists texts = map (λ w. string_bytes w) texts

-- a file with its name
abbrev pub file_with_name : String Global × Vec ℕ Global → List ℕ × List ℕ
file_with_name file = (string_bytes file.0, file.1.items)

-- files with their names, as the bytes of both
abbrev pub named_files : List (String Global × Vec ℕ Global) → List (List ℕ × List ℕ)
named_files files = map file_with_name files

-- the words of a command line that name files: all but the first and the third
abbrev pub fetch_names : List (String Global) → List (List ℕ)
fetch_names words = byte_lists (take 1 (drop 1 words) ++ drop 3 words)
