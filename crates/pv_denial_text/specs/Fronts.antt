-- What stands at the front of some bytes of a denial's text.
use Rattle.std.specs.Prelude.{◌≡◌, ◌≢◌, ◌≤◌, ℕ, List, [], ◌∷◌, ◌++◌, map, decimal}
use Rattle.pv_rules.specs.PlainForms.{plain_site}
use Rattle.pv_rules.specs.declared.sites.Site.{Site}
use Rattle.pv_words.specs.Numbers.{AreNumbers, MAX_NUMBER}
use Rattle.pv_words.specs.Words.{words}
use Rattle.pv_tables.specs.Tables.{site_number}
use Rattle.pv_cert.specs.Lines.{kind_word}
use Rattle.pv_denial.specs.declared.denials.Row.{Row}
use Rattle.pv_denial_text.specs.Lines.{DenialLine, IsInRange, IsRowInRange, line_text, row_words}

-- This line stands at the front, with this after it, and is in range.
pub record Begins (bytes : List ℕ) (line : DenialLine) (rest : List ℕ) : Type 0 where
  pub in_range : IsInRange line
  pub whole : bytes ≡ line_text line ++ rest

-- no line of this kind stands at the front
abbrev pub BeginsNone : {A : Type 0} → (A → DenialLine) → List ℕ → Type 0
BeginsNone {A} line_of bytes = (x : A) (rest : List ℕ) → Begins bytes (line_of x) rest → ⊥

-- this line doesn't stand at the front
abbrev pub BeginsNot : DenialLine → List ℕ → Type 0
BeginsNot line bytes = (rest : List ℕ) → Begins bytes line rest → ⊥

-- the site of a row, by its kind and its number, a blank, and this
pub record IsSiteBehind (line : List ℕ) (s : Site) (rest : List ℕ) : Type 0 where
  pub number : site_number (plain_site s) ≤ MAX_NUMBER
  pub whole : line ≡ kind_word (plain_site s) ++
      (32 ∷ (decimal (site_number (plain_site s)) ++ (32 ∷ rest)))

-- the values of a row: one or more numbers, with one blank between each two
pub record AreValueWords (bytes : List ℕ) (values : List ℕ) : Type 0 where
  pub some : values ≢ []
  pub in_range : AreNumbers values
  pub whole : bytes ≡ words (map decimal values)

-- the words of a row
pub record IsRowText (line : List ℕ) (r : Row) : Type 0 where
  pub in_range : IsRowInRange r
  pub whole : line ≡ words (row_words r)
