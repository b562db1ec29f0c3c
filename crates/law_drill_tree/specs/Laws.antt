-- What holds of the document of a drill, each a statement.
use Rattle.std.specs.Prelude.{IsTrue, List, codes, length, suc, ℕ, ◌++◌, ◌∷◌, ◌≡◌, ◌≤◌}
use Rattle.pv_chars.specs.Names.{is_name}
use Rattle.pv_dtd.specs.Meaning.{DtdTextMeans, is_dtd}
use Rattle.pv_drill.specs.Drill.{DRILL_DTD, drill_text}
use Rattle.pv_edit.specs.Reasons.{edit_outcome, gives}
use Rattle.pv_missing.specs.Completions.{IsPotentiallyValid}
use Rattle.pv_missing.specs.Verdicts.{AreVerdicts, possible_in}
use Rattle.law_missing.specs.Dtds.{sections_dtd}
use Rattle.pv_read.specs.Grammar.{IsDocumentText}
use Rattle.pv_tree.specs.Lists.{lists_of}
use Rattle.pv_tree.specs.View.{view}
use Rattle.law_drill_tree.specs.Sections.{Section, ahead, all_verdicts, bare_section, drill_doc}
use Rattle.law_drill_tree.specs.Sections.{marked_doc, open_in, root_tree, trees, with_around}
use Rattle.law_drill_tree.specs.Sections.{section_wrap}

-- the text of the drill's DTD means this DTD
abbrev pub MeansDrillDtd : Type 0
MeansDrillDtd = DtdTextMeans DRILL_DTD (is_dtd sections_dtd)

-- the text of the drill's document spells the document with all sections as they were
abbrev pub SpellsDrillDocument : Type 0
SpellsDrillDocument = (n : ℕ) → n ≤ 20000 →
    IsDocumentText (codes "doc") (drill_text n) (marked_doc (trees (ahead 0 n)))

-- The list of each section as it was is Possible, and all others are Valid; so the document is
-- potentially valid.
pub record JudgesSections (ss : List Section) : Type 0 where
  pub are_verdicts : AreVerdicts sections_dtd (codes "doc") (lists_of (drill_doc (trees ss)))
      (all_verdicts ss)
  pub open_lists : possible_in (all_verdicts ss) ≡ open_in ss
  pub possible : IsPotentiallyValid sections_dtd (codes "doc") (view (root_tree (trees ss)))

abbrev pub SectionsAreJudged : Type 0
SectionsAreJudged = (ss : List Section) → 1 ≤ length ss → JudgesSections ss

-- with the text of a section in a br it isn't
abbrev pub BrCannotStand : Type 0
BrCannotStand = (front back : List Section) (k : ℕ) →
    IsPotentiallyValid sections_dtd (codes "doc")
    (view (root_tree (with_around (codes "br") front k back))) → ⊥

-- The text of the section after so many others and the head can be put into an element.
abbrev pub TextsCanBeWrapped : Type 0
TextsCanBeWrapped = (name : List ℕ) (front back : List Section) (k : ℕ) → IsTrue (is_name name) →
    edit_outcome tt (drill_doc (trees front ++ bare_section k ∷ trees back))
    (section_wrap (suc (length front)) name) ≡ gives (drill_doc (with_around name front k back))
