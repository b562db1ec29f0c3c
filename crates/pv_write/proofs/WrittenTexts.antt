-- What a text spells is written as that text.
use Rattle.std.proofs.Common.{◌≡◌, ℕ, List, refl, sym}
use Rattle.pv_tree.specs.Plain.{short, tagged, Tree, element, text_node, cdata_node, misc_node, Forest, no_trees, tree, PlainDoc}
use Rattle.pv_read.specs.Grammar.{SpellsNode, SpellsContent, SpellsDocument}
use Rattle.pv_write.specs.Text.{tree_text, forest_text, doc_text}

mutual
  tree_text-spelled : {M : Type 0} (t : Tree M) (bytes : List ℕ) → SpellsNode t bytes → tree_text t ≡ bytes
  tree_text-spelled (element x attrs short kids mark) bytes (name, are, none, whole) = sym whole
  tree_text-spelled (element x attrs (tagged gap) kids mark) bytes (content, name, are, white, spells, whole) =
      rw (whole, forest_text-spelled kids content spells) refl
  tree_text-spelled (text_node units) bytes (chars, all, whole) = sym whole
  tree_text-spelled (cdata_node section) bytes (is, same) = sym same
  tree_text-spelled (misc_node misc) bytes (is, same) = sym same

  forest_text-spelled : {M : Type 0} (kids : Forest M) (bytes : List ℕ) → SpellsContent kids bytes → forest_text kids ≡ bytes
  forest_text-spelled no_trees bytes spells = sym spells
  forest_text-spelled (tree t kids) bytes (first, more, spells, whole_run, below, whole) =
      rw (whole, tree_text-spelled t first spells, forest_text-spelled kids more below) refl

pub doc_text-spelled : {M : Type 0} (root bytes : List ℕ) (doc : PlainDoc M) → SpellsDocument root bytes doc → doc_text doc ≡ bytes
doc_text-spelled root bytes doc s = rw (tree_text-spelled doc.root s.element s.is_root) (sym s.whole)
