-- Faults of the outside, and what a call that answers one owes.
use Rattle.std.specs.Prelude.{◌≡◌, ℕ, zero, suc, ◌+◌, ◌-◌, ◌^◌, ◌≤◌, ◌<◌, min, List, length, take}
use Rattle.std.specs.Prelude.{Result, Ok, Err, MatchResult, Option}
use Rattle.std.specs.Io.KnownBytes.{Appends}

-- a count after one more, which stops at its last value
abbrev pub next_count : ℕ → ℕ
next_count count = min (count + 1) (2 ^ 64 - 1)

-- a count stays
abbrev pub CountStays : ℕ → ℕ → Type 0
CountStays before now = now ≡ before

-- a count rose, or stands at its last value
abbrev pub Rose : ℕ → ℕ → Type 0
Rose before now = (before ≤ now) × (next_count before ≤ now)

-- So many calls were made, by two counts of calls that are compared up to the last value that a
-- count can have.
abbrev pub MadeCalls : ℕ → ℕ → ℕ → Type 0
MadeCalls n before now = min now (2 ^ 64 - 1) ≡ min (before + n) (2 ^ 64 - 1)

-- how many bytes each call of a source has room for
abbrev pub FILL_BYTES : ℕ
FILL_BYTES = 65536

-- how often a source was asked, and how often it gave no byte then: at its end, or at a fault
pub record Asked : Type 0 where
  pub calls : ℕ
  pub empty : ℕ

-- an input that was never asked
abbrev pub never_asked : Asked
never_asked = record { calls = 0; empty = 0 }

-- how many of one answer gave no byte
abbrev pub empty_in : {E : Type 0} → Result ℕ E → ℕ
empty_in (Ok zero) = 1
empty_in (Ok (suc n)) = 0
empty_in (Err error) = 1

-- so many calls were made, so many of which gave no byte
pub record WasAsked (calls empty : ℕ) (before now : Asked) : Type 0 where
  pub all : MadeCalls calls before.calls now.calls
  pub none_given : MadeCalls empty before.empty now.empty

-- a call that answers an error counted a fault, and every other call counted none
abbrev pub CountsFault : {T E : Type 0} → ℕ → ℕ → Result T E → Type 0
CountsFault before now result =
    MatchResult result (λ _. CountStays before now) (λ _. Rose before now)

-- at most the piece was taken, and some of it unless it is empty
pub record TakesSome (count : ℕ) (piece : List ℕ) : Type 0 where
  pub within : count ≤ length piece
  pub some : 0 < length piece → 0 < count

-- a front of these bytes was written
abbrev pub AppendsFront : Option (List ℕ) → Option (List ℕ) → List ℕ → Type 0
AppendsFront old new bytes = (k : ℕ) × (k ≤ length bytes) × Appends old new (take k bytes)
