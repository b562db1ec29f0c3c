-- Where the units of a text begin: with each byte outside references that continues no character.
use Rattle.std.specs.Prelude.{◌≡◌, ℕ, ◌+◌, ◌==◌, ◌⊎◌, ◌&&◌, Bool, true, false, not, List, [], ◌∷◌}
use Rattle.std.specs.Prelude.{◌++◌, if◌then◌else◌, IsTrue}
use Rattle.std.specs.List.{list_all}
use Rattle.pv_chars.specs.Utf8.{continues}
use Rattle.pv_chars.specs.Units.{BeginsAmpersand, cut_units}

-- how many of the bytes continue no character
abbrev pub openings : List ℕ → ℕ
openings [] = 0
openings (b ∷ bs) = if continues b then openings bs else openings bs + 1

-- no byte of these is `&`
abbrev pub has_no_ampersand : List ℕ → Bool
has_no_ampersand bytes = list_all (λ b. not (b == 38)) bytes

-- The bytes up to the first `&`, if there is one.
pub record EndsBeforeAmpersand (bytes front : List ℕ) : Type 0 where
  pub rest : List ℕ
  pub whole : bytes ≡ front ++ rest
  pub has_no_ampersand : IsTrue (has_no_ampersand front)
  pub ends : (rest ≡ []) ⊎ BeginsAmpersand rest

-- whether a reference is open after these bytes, if one is open before them or not
abbrev pub ends_in_reference : Bool → List ℕ → Bool
ends_in_reference inside [] = inside
ends_in_reference true (b ∷ bs) = ends_in_reference (not (b == 59)) bs
ends_in_reference false (b ∷ bs) = ends_in_reference (b == 38) bs

-- no `&` stands where a reference is open
abbrev pub nests_none : Bool → List ℕ → Bool
nests_none inside [] = true
nests_none true (b ∷ bs) = not (b == 38) && nests_none (not (b == 59)) bs
nests_none false (b ∷ bs) = nests_none (b == 38) bs

-- the first byte, if there is one, continues no character
abbrev pub begins_character : List ℕ → Bool
begins_character [] = true
begins_character (b ∷ bs) = not (continues b)

-- Before the last byte that continues no character, which is this one, stands this.
pub record EndsOpening (bytes front : List ℕ) (first : ℕ) : Type 0 where
  pub tail : List ℕ
  pub whole : bytes ≡ front ++ (first ∷ tail)
  pub continue : IsTrue (list_all continues tail)
  pub begins_character : continues first ≡ false

-- Before the `&` of the reference that is open at the end stands this.
pub record EndsOpen (bytes front : List ℕ) : Type 0 where
  pub inner : List ℕ
  pub whole : bytes ≡ front ++ (38 ∷ inner)
  pub has_no_semicolon : IsTrue (list_all (λ b. not (b == 59)) inner)

-- Before the last unit stands this.
pub record EndsUnit (bytes front : List ℕ) : Type 0 where
  pub unit : List ℕ
  pub whole : bytes ≡ front ++ unit
  pub closed : ends_in_reference false front ≡ false
  pub cut : (rest : List ℕ) → cut_units false (unit ++ rest)
      ≡ ([], (unit ++ (cut_units false rest).0) ∷ (cut_units false rest).1)
