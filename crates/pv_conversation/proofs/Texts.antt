-- The text of a document doesn't show marks.
use Rattle.std.proofs.Common.{◌≡◌, ◌++◌, ◌∙◌, codes, ap, refl}
use Rattle.pv_tree.specs.Marks.{unmarked_doc}
use Rattle.pv_tree.specs.Plain.{short, tagged, Tree, element, text_node, cdata_node, misc_node, Forest, no_trees, tree, PlainDoc, without_marks}
use Rattle.pv_write.specs.Text.{doc_text, forest_text, tree_text}
use Rattle.pv_tree.proofs.Marks.{all_without_marks}

mutual
  tree_text-without_marks : {M : Type 0} (t : Tree M) → tree_text (without_marks t) ≡ tree_text t
  tree_text-without_marks (element x attrs short kids mark) = refl
  tree_text-without_marks (element x attrs (tagged gap) kids mark) =
      ap (λ inner. codes "<" ++ x ++ attrs ++ codes ">" ++ inner ++ codes "</" ++ x ++ gap ++ codes ">") (forest_text-without_marks kids)
  tree_text-without_marks (text_node units) = refl
  tree_text-without_marks (cdata_node bytes) = refl
  tree_text-without_marks (misc_node bytes) = refl

  forest_text-without_marks : {M : Type 0} (kids : Forest M) → forest_text (all_without_marks kids) ≡ forest_text kids
  forest_text-without_marks no_trees = refl
  forest_text-without_marks (tree t rest) =
      ap (λ first. first ++ forest_text (all_without_marks rest)) (tree_text-without_marks t) ∙ ap (λ behind. tree_text t ++ behind) (forest_text-without_marks rest)

pub doc_text-without_marks : {M : Type 0} (doc : PlainDoc M) → doc_text (unmarked_doc doc) ≡ doc_text doc
doc_text-without_marks doc = ap (λ root. doc.before ++ root ++ doc.after) (tree_text-without_marks doc.root)
