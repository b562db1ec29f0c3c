-- The lines of a denial's text.
use Rattle.std.specs.Prelude.{◌≢◌, ◌≤◌, ℕ, List, [], ◌∷◌, map, codes, decimal}
use Rattle.pv_rules.specs.PlainForms.{plain_site}
use Rattle.pv_words.specs.Numbers.{AreNumbers, MAX_NUMBER}
use Rattle.pv_words.specs.Paths.{path_text}
use Rattle.pv_words.specs.Words.{with_feed, words}
use Rattle.pv_tables.specs.Tables.{site_number}
use Rattle.pv_cert.specs.Lines.{kind_word}
use Rattle.pv_denial.specs.declared.denials.Cause.{Cause}
use Rattle.pv_denial.specs.declared.denials.Cause.TheVariants as cause
use Rattle.pv_denial.specs.declared.denials.Row.{Row}

pub data DenialLine : Type 0 where
  version_line : DenialLine
  list_line : (path : List ℕ) → DenialLine
  cause_line : (cause : Cause) → DenialLine
  row_line : (row : Row) → DenialLine
  end_line : DenialLine

-- the word of a cause
abbrev pub cause_word : Cause → List ℕ
cause_word cause.Undeclared = codes "undeclared"
cause_word cause.Unproductive = codes "unproductive"
cause_word cause.Empty = codes "empty"
cause_word cause.Word = codes "word"

-- the words of a row: its kind, its number, and its values
abbrev pub row_words : Row → List (List ℕ)
row_words r =
    kind_word (plain_site r.site) ∷ decimal (site_number (plain_site r.site))
    ∷ map decimal r.values

-- the bytes of a line, with its LF
abbrev pub line_text : DenialLine → List ℕ
line_text version_line = with_feed (codes "pvdeny 1")
line_text (list_line path) = with_feed (words (codes "list" ∷ path_text path ∷ []))
line_text (cause_line c) = with_feed (words (codes "cause" ∷ cause_word c ∷ []))
line_text (row_line r) = with_feed (words (row_words r))
line_text end_line = with_feed (codes "end")

-- a row has a value, and each of its numbers is below 4,294,967,296
pub record IsRowInRange (r : Row) : Type 0 where
  pub number : site_number (plain_site r.site) ≤ MAX_NUMBER
  pub some : r.values ≢ []
  pub values : AreNumbers r.values

-- the numbers of the line are in range, and a row has a value
abbrev pub IsInRange : DenialLine → Type 0
IsInRange (list_line path) = AreNumbers path
IsInRange (row_line r) = IsRowInRange r
IsInRange _ = Unit {0}
