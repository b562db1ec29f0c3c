-- The texts of a document are made of units.
use Rattle.std.proofs.Common.{List, subst, sym, ℕ}
use Rattle.pv_tree.specs.Plain.{Forest, Tree, cdata_node, element, misc_node, no_trees, short, tagged, text_node, tree, PlainDoc}
use Rattle.pv_tree.specs.Marks.{blank_mark}
use Rattle.pv_tree.specs.declared.nodes.Mark.{Mark}
use Rattle.pv_read.specs.DocumentLaws.{GrammarsAgree}
use Rattle.pv_read.specs.Grammar.{SpellsContent, SpellsNode}
use Rattle.pv_flat.specs.ComingEvents.{flat_limits}
use Rattle.pv_compare.specs.Kept.{IsBodyText}
use Rattle.pv_compare.specs.LeftOut.{HasUnitTexts, HaveUnitTexts}

mutual
  unit-texts : {M : Type 0} (t : Tree M) (bytes : List ℕ) → SpellsNode t bytes → HasUnitTexts t
  unit-texts (element x attrs short kids mark) bytes (name, are, none, whole) = subst HaveUnitTexts (sym none) tt
  unit-texts (element x attrs (tagged gap) kids mark) bytes (content, name, are, white, spells, whole) = all-unit-texts kids content spells
  unit-texts (text_node units) bytes (chars, all, whole) = all
  unit-texts (cdata_node section) bytes spells = tt
  unit-texts (misc_node misc) bytes spells = tt

  all-unit-texts : {M : Type 0} (kids : Forest M) (bytes : List ℕ) → SpellsContent kids bytes → HaveUnitTexts kids
  all-unit-texts no_trees bytes spells = tt
  all-unit-texts (tree t kids) bytes (first, more, spells, whole_run, below, whole) = (unit-texts t first spells, all-unit-texts kids more below)

pub body-texts : GrammarsAgree → (root bytes : List ℕ) (doc : PlainDoc Mark) → IsBodyText root bytes doc → HasUnitTexts doc.root
body-texts agree root bytes doc means = let text = ((agree flat_limits blank_mark root bytes doc).0 means).0 in unit-texts doc.root text.spelled.element text.spelled.is_root
