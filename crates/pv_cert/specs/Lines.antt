-- The lines of a pack.
use Rattle.std.specs.Prelude.{◌≤◌, ℕ, List, [], ◌∷◌, codes, decimal}
use Rattle.pv_rules.specs.Derivations.{most_missing}
use Rattle.pv_rules.specs.PlainForms.{plain_site}
use Rattle.pv_rules.specs.Sites.{PlainSite, content_site, name_site, part_site, rest_site}
use Rattle.pv_tables.specs.Tables.{site_number}
use Rattle.pv_tables.specs.declared.tables.Entry.{Entry}
use Rattle.pv_words.specs.Numbers.{AreNumbers, MAX_NUMBER}
use Rattle.pv_words.specs.Paths.{path_text}
use Rattle.pv_words.specs.Words.{counted_text, with_feed, words}

pub data PackLine : Type 0 where
  version_line : PackLine
  total_line : (number : ℕ) → PackLine
  mark_line : (number : ℕ) → PackLine
  body_line : (bytes : List ℕ) → PackLine
  list_line : (path : List ℕ) → PackLine
  entry_line : (e : Entry) → PackLine
  end_line : PackLine

-- the letter of a site's kind
abbrev pub kind_word : PlainSite → List ℕ
kind_word (content_site x) = codes "c"
kind_word (name_site x) = codes "n"
kind_word (part_site q) = codes "p"
kind_word (rest_site q) = codes "s"

-- the words of an entry: its kind, its number, where its span begins and ends, and its value
abbrev pub entry_words : Entry → List (List ℕ)
entry_words e =
    kind_word (plain_site e.site) ∷ decimal (site_number (plain_site e.site)) ∷ decimal e.from
    ∷ decimal e.to ∷ decimal e.value ∷ []

-- The bytes of a line, with its LF. Those of a body count as one line with the line before them,
-- which tells their number.
abbrev pub line_text : PackLine → List ℕ
line_text version_line = with_feed (codes "pvpack 1")
line_text (total_line k) = with_feed (words (codes "total" ∷ decimal k ∷ []))
line_text (mark_line m) = with_feed (words (codes "mark" ∷ decimal m ∷ []))
line_text (body_line bytes) = counted_text (codes "body") bytes
line_text (list_line path) = with_feed (words (codes "list" ∷ path_text path ∷ []))
line_text (entry_line e) = with_feed (words (entry_words e))
line_text end_line = with_feed (codes "end")

pub record IsEntryInRange (e : Entry) : Type 0 where
  pub number : site_number (plain_site e.site) ≤ MAX_NUMBER
  pub from : e.from ≤ MAX_NUMBER
  pub to : e.to ≤ MAX_NUMBER
  pub value : e.value ≤ most_missing

-- the numbers of the line are in range
abbrev pub IsInRange : PackLine → Type 0
IsInRange (total_line k) = k ≤ most_missing
IsInRange (mark_line m) = m ≤ MAX_NUMBER
IsInRange (list_line path) = AreNumbers path
IsInRange (entry_line e) = IsEntryInRange e
IsInRange _ = Unit {0}
