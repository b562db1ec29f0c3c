-- A document whose marks tell verdicts given in document order.
use Rattle.std.specs.Prelude.{List, [], None, get_or, suc, ℕ, ◌+◌}
use Rattle.pv_cache.specs.Updates.{update_element, update_doc}
use Rattle.pv_tree.specs.Plain.{Forest, PlainDoc, Tree, cdata_node, element, misc_node, no_trees}
use Rattle.pv_tree.specs.Plain.{text_node, tree}
use Rattle.pv_tree.specs.declared.nodes.Mark.{Mark}
use Rattle.pv_tree.specs.declared.nodes.Verdict.{Verdict}
use Rattle.pv_tree.specs.declared.nodes.Verdict.TheVariants as verdict

-- how many lists a tree has
abbrev mutual
  pub lists_in : Tree Mark → ℕ
  lists_in (element x attrs ending kids mark) = suc (lists_in_all kids)
  lists_in (text_node units) = 0
  lists_in (cdata_node bytes) = 0
  lists_in (misc_node bytes) = 0

  pub lists_in_all : Forest Mark → ℕ
  lists_in_all no_trees = 0
  lists_in_all (tree t rest) = lists_in t + lists_in_all rest

-- the verdict of this number
abbrev pub nth_verdict : List Verdict → ℕ → Verdict
nth_verdict vs at = get_or vs at verdict.Valid

-- a tree whose marks tell the verdicts from this number on
abbrev mutual
  pub lay_node : List Verdict → ℕ → Tree Mark → Tree Mark
  lay_node vs at (element x attrs ending kids mark) =
      update_element (nth_verdict vs at) 0 (element x attrs ending (lay_kids vs (suc at) kids) mark)
  lay_node vs at (text_node units) = text_node units
  lay_node vs at (cdata_node bytes) = cdata_node bytes
  lay_node vs at (misc_node bytes) = misc_node bytes

  pub lay_kids : List Verdict → ℕ → Forest Mark → Forest Mark
  lay_kids vs at no_trees = no_trees
  lay_kids vs at (tree t rest) = tree (lay_node vs at t) (lay_kids vs (at + lists_in t) rest)

-- a document whose marks tell these verdicts
abbrev pub lay_doc : List Verdict → PlainDoc Mark → PlainDoc Mark
lay_doc vs doc = update_doc [] (nth_verdict vs 0) None 0
    (record doc { root = lay_node vs 1 doc.root })
