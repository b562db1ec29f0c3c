-- What stands at the front of some bytes of a pack.
use Rattle.std.specs.Prelude.{◌≡◌, ◌≤◌, ℕ, List, [], ◌∷◌, ◌++◌, decimal}
use Rattle.pv_rules.specs.PlainForms.{plain_site}
use Rattle.pv_rules.specs.declared.sites.Site.{Site}
use Rattle.pv_words.specs.Numbers.{MAX_NUMBER}
use Rattle.pv_words.specs.Words.{words}
use Rattle.pv_tables.specs.declared.tables.Entry.{Entry}
use Rattle.pv_cert.specs.Lines.{IsEntryInRange, IsInRange, PackLine, entry_words}
use Rattle.pv_cert.specs.Lines.{kind_word, line_text}

-- This line stands at the front, with this after it, and its numbers are in range.
pub record Begins (bytes : List ℕ) (line : PackLine) (rest : List ℕ) : Type 0 where
  pub in_range : IsInRange line
  pub whole : bytes ≡ line_text line ++ rest

-- no line of this kind stands at the front
abbrev pub BeginsNone : {A : Type 0} → (A → PackLine) → List ℕ → Type 0
BeginsNone {A} line_of bytes = (x : A) (rest : List ℕ) → Begins bytes (line_of x) rest → ⊥

-- this line doesn't stand at the front
abbrev pub BeginsNot : PackLine → List ℕ → Type 0
BeginsNot line bytes = (rest : List ℕ) → Begins bytes line rest → ⊥

-- a span and a value: three numbers with blanks between
pub record AreSpanAndValue (bytes : List ℕ) (from to value : ℕ) : Type 0 where
  pub is_from : from ≤ MAX_NUMBER
  pub is_to : to ≤ MAX_NUMBER
  pub is_value : value ≤ MAX_NUMBER
  pub whole : bytes ≡ words (decimal from ∷ decimal to ∷ decimal value ∷ [])

-- A span and a value stand at the front, three numbers with blanks between, then a LF, and this
-- after it.
pub record IsSpanThen (bytes : List ℕ) (from to value : ℕ) (rest : List ℕ) : Type 0 where
  pub is_from : from ≤ MAX_NUMBER
  pub is_to : to ≤ MAX_NUMBER
  pub is_value : value ≤ MAX_NUMBER
  pub whole : bytes ≡
      decimal from ++ (32 ∷ (decimal to ++ (32 ∷ (decimal value ++ (10 ∷ rest)))))

-- the letter is that of the site's kind
abbrev pub IsKind : ℕ → Site → Type 0
IsKind letter site = kind_word (plain_site site) ≡ letter ∷ []

-- the words of an entry
pub record IsEntryText (line : List ℕ) (e : Entry) : Type 0 where
  pub in_range : IsEntryInRange e
  pub whole : line ≡ words (entry_words e)
