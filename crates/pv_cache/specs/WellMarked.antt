-- What the marks of a document tell.
use Rattle.std.specs.Prelude.{List, None, Option, Some, [], length, ℕ, ◌+◌, ◌++◌, ◌∷◌, ◌≡◌}
use Rattle.pv_dtd.specs.Plain.{PlainDtd}
use Rattle.pv_missing.specs.Verdicts.{IsVerdict}
use Rattle.pv_missing.specs.Widths.{FitsVerdict}
use Rattle.pv_tree.specs.Lists.{Owner, an_element, the_document}
use Rattle.pv_tree.specs.Plain.{Forest, PlainDoc, Tree, cdata_node, element, misc_node, no_trees}
use Rattle.pv_tree.specs.Plain.{text_node, tree}
use Rattle.pv_tree.specs.Words.{word_of}
use Rattle.pv_tree.specs.declared.nodes.Mark.{Mark}
use Rattle.pv_tree.specs.declared.nodes.Verdict.{Verdict}
use Rattle.pv_tree.specs.declared.nodes.Verdict.TheVariants as verdict

-- how many lists of a subtree are Possible, as the mark of its node tells
abbrev pub told_left : Tree Mark → ℕ
told_left (element x attrs ending kids mark) = mark.left
told_left (text_node units) = 0
told_left (cdata_node bytes) = 0
told_left (misc_node bytes) = 0

abbrev pub told_left_in : Forest Mark → ℕ
told_left_in no_trees = 0
told_left_in (tree t rest) = told_left t + told_left_in rest

-- how many nodes a subtree has, as the mark of its node tells
abbrev pub told_nodes : Tree Mark → ℕ
told_nodes (element x attrs ending kids mark) = mark.nodes
told_nodes (text_node units) = 1
told_nodes (cdata_node bytes) = 1
told_nodes (misc_node bytes) = 1

abbrev pub told_nodes_in : Forest Mark → ℕ
told_nodes_in no_trees = 0
told_nodes_in (tree t rest) = told_nodes t + told_nodes_in rest

-- a list adds one where it is Possible
abbrev pub own_left : Verdict → ℕ
own_left verdict.Valid = 0
own_left verdict.Possible = 1
own_left verdict.Impossible = 0

-- a list adds one to the Impossible ones where it is Impossible
abbrev pub own_bad : Verdict → ℕ
own_bad verdict.Valid = 0
own_bad verdict.Possible = 0
own_bad verdict.Impossible = 1

-- how many lists of a subtree are Impossible, as their marks tell
abbrev mutual
  pub bad_in : Tree Mark → ℕ
  bad_in (element x attrs ending kids mark) = own_bad mark.verdict + bad_in_all kids
  bad_in (text_node units) = 0
  bad_in (cdata_node bytes) = 0
  bad_in (misc_node bytes) = 0

  pub bad_in_all : Forest Mark → ℕ
  bad_in_all no_trees = 0
  bad_in_all (tree t rest) = bad_in t + bad_in_all rest

-- how many lists of a document are Impossible, as their marks tell
abbrev pub told_bad : PlainDoc Mark → ℕ
told_bad doc = own_bad doc.mark.verdict + bad_in doc.root

-- an element is a node, and the document node isn't counted
abbrev pub own_node : Owner → ℕ
own_node the_document = 0
own_node (an_element x) = 1

-- The mark tells of a list its verdict, and of its owner's subtree how many lists are Possible and
-- how many nodes there are. The list isn't too wide for a verdict.
pub record TellsList (g : PlainDtd) (root : List ℕ) (owner : Owner) (kids : Forest Mark)
    (mark : Mark) : Type 0 where
  pub judged : IsVerdict g root (record { path = []; owner = owner; kids = kids }) mark.verdict
  pub narrow : FitsVerdict g (length (word_of g kids))
  pub left : mark.left ≡ own_left mark.verdict + told_left_in kids
  pub nodes : mark.nodes ≡ own_node owner + told_nodes_in kids

-- what holds of the list and the mark of this element, where it is one, and of each below it
abbrev mutual
  pub EachList : (Owner → Forest Mark → Mark → Type 0) → Tree Mark → Type 0
  EachList R (element x attrs ending kids mark) = R (an_element x) kids mark × EachListIn R kids
  EachList R (text_node units) = Unit {0}
  EachList R (cdata_node bytes) = Unit {0}
  EachList R (misc_node bytes) = Unit {0}

  pub EachListIn : (Owner → Forest Mark → Mark → Type 0) → Forest Mark → Type 0
  EachListIn R no_trees = Unit {0}
  EachListIn R (tree t rest) = EachList R t × EachListIn R rest

-- A document is well marked: its own mark and that of each element tell their lists.
pub record IsWellMarked (g : PlainDtd) (root : List ℕ) (doc : PlainDoc Mark) : Type 0 where
  pub document : TellsList g root the_document (tree doc.root no_trees) doc.mark
  pub elements : EachList (TellsList g root) doc.root

-- the verdict of an element's list, as its mark tells it
abbrev pub told_verdict : Tree Mark → Option Verdict
told_verdict (element x attrs ending kids mark) = Some mark.verdict
told_verdict (text_node units) = None
told_verdict (cdata_node bytes) = None
told_verdict (misc_node bytes) = None

-- the verdicts that the marks of a tree tell, in document order
abbrev mutual
  pub told_verdicts : Tree Mark → List Verdict
  told_verdicts (element x attrs ending kids mark) = mark.verdict ∷ told_verdicts_in kids
  told_verdicts (text_node units) = []
  told_verdicts (cdata_node bytes) = []
  told_verdicts (misc_node bytes) = []

  pub told_verdicts_in : Forest Mark → List Verdict
  told_verdicts_in no_trees = []
  told_verdicts_in (tree t rest) = told_verdicts t ++ told_verdicts_in rest

-- the verdicts that the marks of a document tell, in document order
abbrev pub verdicts_told : PlainDoc Mark → List Verdict
verdicts_told doc = doc.mark.verdict ∷ told_verdicts doc.root
