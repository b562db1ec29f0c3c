-- The marks of a document. They are no part of its meaning.
use Rattle.std.specs.Prelude.{◌≡◌}
use Rattle.pv_tree.specs.Plain.{PlainDoc, map_marks, without_marks}
use Rattle.pv_tree.specs.declared.nodes.Mark.{Mark}
use Rattle.pv_tree.specs.declared.nodes.Verdict.TheVariants as verdict

-- the mark of a list that nothing is known of
abbrev pub blank_mark : Mark
blank_mark = record { verdict = verdict.Valid; stamp = 0; left = 0; nodes = 0 }

-- The document and each of its elements have this mark.
pub record HasMarks {M : Type 0} (mark : M) (doc : PlainDoc M) : Type 0 where
  pub on_document : doc.mark ≡ mark
  pub on_elements : map_marks (λ _. mark) doc.root ≡ doc.root

-- the document without its marks
abbrev pub unmarked_doc : {M : Type 0} → PlainDoc M → PlainDoc Unit
unmarked_doc doc =
    record { before = doc.before; root = without_marks doc.root; after = doc.after; mark = tt }
