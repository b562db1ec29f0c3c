-- The text of a tree and of a document.
use Rattle.std.specs.Prelude.{ℕ, List, [], ◌++◌, codes}
use Rattle.pv_chars.specs.Texts.{joined}
use Rattle.pv_tree.specs.Plain.{short, tagged, Tree, element, text_node, cdata_node, misc_node}
use Rattle.pv_tree.specs.Plain.{Forest, no_trees, tree, PlainDoc}

-- the bytes of a tree (XML 1.0, 3.1)
abbrev mutual
  pub tree_text : {M : Type 0} → Tree M → List ℕ
  tree_text (element x attrs short kids mark) = codes "<" ++ x ++ attrs ++ codes "/>"
  tree_text (element x attrs (tagged gap) kids mark) = codes "<" ++ x ++ attrs ++ codes ">"
      ++ forest_text kids ++ codes "</" ++ x ++ gap ++ codes ">"
  tree_text (text_node units) = joined units
  tree_text (cdata_node bytes) = bytes
  tree_text (misc_node bytes) = bytes

  pub forest_text : {M : Type 0} → Forest M → List ℕ
  forest_text no_trees = []
  forest_text (tree t rest) = tree_text t ++ forest_text rest

-- the bytes of a document (XML 1.0, 2.1)
abbrev pub doc_text : {M : Type 0} → PlainDoc M → List ℕ
doc_text doc = doc.before ++ tree_text doc.root ++ doc.after
