-- The spans of a tree, and when a document stands for a text and ranges.
use Rattle.std.specs.Prelude.{◌≡◌, ◌≢◌, ℕ, ◌+◌, List, [], ◌∷◌, ◌++◌, length, map}
use Rattle.pv_tree.specs.Marks.{blank_mark}
use Rattle.pv_tree.specs.Plain.{tagged, Tree, element, text_node, Forest, no_trees, tree, PlainDoc}
use Rattle.pv_tree.specs.declared.nodes.Mark.{Mark}
use Rattle.pv_standoff.specs.Ranges.{IsSortedFrom}
use Rattle.pv_standoff.specs.declared.ranges.Range.{Range}

-- the units of the texts of a tree, in document order
abbrev mutual
  pub units_of : Tree Mark → List (List ℕ)
  units_of (element x attrs ending kids mark) = units_of_all kids
  units_of (text_node units) = units
  units_of _ = []

  pub units_of_all : Forest Mark → List (List ℕ)
  units_of_all no_trees = []
  units_of_all (tree t rest) = units_of t ++ units_of_all rest

-- A span: an element of this name holds the units from number `from` up to but not including
-- number `to`.
pub record Span : Type 0 where
  pub from : ℕ
  pub to : ℕ
  pub name : List ℕ

-- the spans of the elements of a tree in document order, where n units stand before it
abbrev mutual
  pub spans_of : ℕ → Tree Mark → List Span
  spans_of n (element x attrs ending kids mark) =
      record { from = n; to = n + length (units_of_all kids); name = x } ∷ spans_of_all n kids
  spans_of n _ = []

  pub spans_of_all : ℕ → Forest Mark → List Span
  spans_of_all n no_trees = []
  spans_of_all n (tree t rest) = spans_of n t ++ spans_of_all (n + length (units_of t)) rest

-- no element has attributes, each has an end tag with no bytes, and nothing is known of its list;
-- there is no CDATA section, comment or processing instruction, and each text has a unit
abbrev mutual
  pub IsBare : Tree Mark → Type 0
  IsBare (element x attrs ending kids mark) =
      (attrs ≡ []) × (ending ≡ tagged []) × (mark ≡ blank_mark) × AreBare kids
  IsBare (text_node units) = units ≢ []
  IsBare _ = ⊥

  pub AreBare : Forest Mark → Type 0
  AreBare no_trees = Unit {0}
  AreBare (tree t rest) = IsBare t × AreBare rest

-- the tree is a text
abbrev pub IsTextNode : Tree Mark → Type 0
IsTextNode (text_node units) = Unit {0}
IsTextNode _ = ⊥

-- the first of some trees is a text
abbrev pub BeginsWithText : Forest Mark → Type 0
BeginsWithText no_trees = ⊥
BeginsWithText (tree t rest) = IsTextNode t

-- no two texts are adjacent, at all depths
abbrev mutual
  pub HasApart : Tree Mark → Type 0
  HasApart (element x attrs ending kids mark) = AreApart kids
  HasApart _ = Unit {0}

  pub AreApart : Forest Mark → Type 0
  AreApart no_trees = Unit {0}
  AreApart (tree t rest) = HasApart t × (IsTextNode t → BeginsWithText rest → ⊥) × AreApart rest

-- a range without its level
abbrev pub span_of : Range → Span
span_of r = record { from = r.from; to = r.to; name = r.name }

-- the root of this name, with nothing in its tags, nothing known of its list, and these kids
abbrev pub root_of : List ℕ → Forest Mark → Tree Mark
root_of root kids = element root [] (tagged []) kids blank_mark

-- the document with this root, and nothing before and after it
abbrev pub document_of_root : Tree Mark → PlainDoc Mark
document_of_root t = record { before = []; root = t; after = []; mark = blank_mark }

-- A document stands for a text and ranges: its root has the root name, its units in order are the
-- text's, there is nothing in it but elements and texts, no two texts are adjacent, nothing stands
-- before and after the root, and the spans of the elements in the root are the ranges in sorted
-- order without their levels.
pub record StandsForRanges (root : List ℕ) (text : List (List ℕ)) (ranges : List Range)
    (doc : PlainDoc Mark) : Type 0 where
  pub kids : Forest Mark
  pub is_document : doc ≡ document_of_root (root_of root kids)
  pub bare : AreBare kids
  pub apart : AreApart kids
  pub units : units_of_all kids ≡ text
  pub sorted : List Range
  pub is_sorted : IsSortedFrom ranges sorted
  pub spans : spans_of_all 0 kids ≡ map span_of sorted
