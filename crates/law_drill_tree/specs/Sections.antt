-- The document of a drill as a plain tree, while its lines are answered.
use Rattle.std.specs.Prelude.{List, [], codes, decimal, map, suc, zero, ℕ, ◌++◌, ◌+◌, ◌∷◌}
use Rattle.pv_chars.specs.Units.{units_in}
use Rattle.pv_edit.specs.declared.edits.Edit.{Edit}
use Rattle.pv_edit.specs.declared.edits.Edit.TheVariants.{Wrap}
use Rattle.law_missing.specs.Documents.{doc_of, tag}
use Rattle.pv_tree.specs.Marks.{blank_mark}
use Rattle.pv_tree.specs.Plain.{PlainDoc, Tree, map_marks, text_node}
use Rattle.pv_tree.specs.declared.nodes.Mark.{Mark}
use Rattle.pv_tree.specs.declared.nodes.Verdict.{Verdict}
use Rattle.pv_tree.specs.declared.nodes.Verdict.TheVariants as verdict

-- the text of section number k
abbrev pub number_bytes : ℕ → List ℕ
number_bytes k = 116 ∷ decimal k

abbrev pub number_text : ℕ → Tree Unit
number_text k = text_node (units_in (number_bytes k))

-- a section with its text in it, and with its text in an element
abbrev pub bare_section : ℕ → Tree Unit
bare_section k = tag (codes "sec") (number_text k ∷ [])

abbrev pub section_around : List ℕ → ℕ → Tree Unit
section_around name k = tag (codes "sec") (tag name (number_text k ∷ []) ∷ [])

-- a section of this number: as it was, or with its text in a p
pub data Section : Type 0 where
  bare : ℕ → Section
  wrapped : ℕ → Section

abbrev pub section_tree : Section → Tree Unit
section_tree (bare k) = bare_section k
section_tree (wrapped k) = section_around (codes "p") k

abbrev pub trees : List Section → List (Tree Unit)
trees ss = map section_tree ss

abbrev pub head_tree : Tree Unit
head_tree = tag (codes "head") (text_node (units_in (codes "drill")) ∷ [])

-- the root and the document, with these sections
abbrev pub root_tree : List (Tree Unit) → Tree Unit
root_tree ts = tag (codes "doc") (head_tree ∷ ts)

-- the document with these sections
abbrev pub drill_doc : List (Tree Unit) → PlainDoc Unit
drill_doc ts = doc_of (root_tree ts)

-- the document as it is read, with blank marks
abbrev pub marked_doc : List (Tree Unit) → PlainDoc Mark
marked_doc ts = record {
  before = [];
  root = map_marks (λ _. blank_mark) (root_tree ts);
  after = [];
  mark = blank_mark;
}

-- sections, of which the text of one stands in an element of this name
abbrev pub with_around : List ℕ → List Section → ℕ → List Section → List (Tree Unit)
with_around name front k back = trees front ++ section_around name k ∷ trees back

-- so many sections after section number k, as they were
abbrev pub ahead : ℕ → ℕ → List Section
ahead k zero = []
ahead k (suc m) = bare (suc k) ∷ ahead (suc k) m

-- how many lists of them are Possible: that of each section as it was
abbrev pub own_open : Section → ℕ
own_open (bare k) = 1
own_open (wrapped k) = 0

-- how many lists of the sections are Possible
abbrev pub open_in : List Section → ℕ
open_in [] = 0
open_in (s ∷ ss) = own_open s + open_in ss

-- the text of section number k is put into an element of this name
abbrev pub section_wrap : ℕ → List ℕ → Edit
section_wrap k name = Wrap (0 ∷ k ∷ []) 0 1 name

-- the verdicts of the lists of sections, and of those of the document
abbrev pub verdicts_in : List Section → List Verdict
verdicts_in [] = []
verdicts_in (bare k ∷ ss) = verdict.Possible ∷ verdicts_in ss
verdicts_in (wrapped k ∷ ss) = verdict.Valid ∷ verdict.Valid ∷ verdicts_in ss

-- the verdicts of all lists of the document
abbrev pub all_verdicts : List Section → List Verdict
all_verdicts ss = verdict.Valid ∷ verdict.Valid ∷ verdict.Valid ∷ verdicts_in ss
