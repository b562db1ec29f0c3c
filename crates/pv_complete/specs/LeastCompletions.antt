-- What a least completion of a document is.
use Rattle.std.specs.Prelude.{List, ℕ}
use Rattle.pv_dtd.specs.Plain.{PlainDtd}
use Rattle.pv_tree.specs.Plain.{PlainDoc, Tree}
use Rattle.pv_read.specs.Grammar.{SpellsDocument}
use Rattle.pv_missing.specs.Completions.{Completes}
use Rattle.pv_complete.specs.NeededElements.{Needs}

-- The body is a text of a tree that is the document with count elements inserted, which makes it
-- valid; count is the least number of them that can. The marks are the numbers of the inserted
-- elements in the body, in document order, the root having the number 0.
pub record IsLeastCompletion {M : Type 0} (g : PlainDtd) (root : List ℕ) (doc : PlainDoc M)
    (count : ℕ) (marks body : List ℕ) : Type 0 where
  pub needs : Needs g root doc count
  pub tree : Tree M
  pub spelled : SpellsDocument root body (record doc { root = tree })
  pub completes : Completes g root doc (record doc { root = tree }) marks count
