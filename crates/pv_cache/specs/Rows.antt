-- What the marks of a document tell of each list.
use Rattle.std.specs.Prelude.{◌≡◌, List, [], Some, map, suc, ℕ, ◌++◌, ◌∷◌}
use Rattle.pv_cache.specs.VerdictsAfterChange.{owner_at}
use Rattle.pv_cache.specs.Stamps.{StampedDoc}
use Rattle.pv_dtd.specs.Plain.{PlainDtd}
use Rattle.pv_edit.specs.declared.answers.VerdictRow.{VerdictRow}
use Rattle.pv_missing.specs.Verdicts.{AreVerdicts, HaveVerdicts, IsVerdict, PlainVerdicts}
use Rattle.pv_tree.specs.Lists.{Listed, lists_of}
use Rattle.pv_tree.specs.Places.{list_at}
use Rattle.pv_tree.specs.Plain.{Forest, PlainDoc, Tree, cdata_node, element, forest_of, misc_node}
use Rattle.pv_tree.specs.Plain.{no_trees, text_node, tree}
use Rattle.pv_tree.specs.declared.nodes.Mark.{Mark}
use Rattle.pv_tree.specs.declared.nodes.Verdict.{Verdict}

-- the marks of a tree in document order
abbrev mutual
  pub marks_in : {M : Type 0} → Tree M → List M
  marks_in (element x attrs ending kids mark) = mark ∷ marks_in_all kids
  marks_in t = []

  pub marks_in_all : {M : Type 0} → Forest M → List M
  marks_in_all no_trees = []
  marks_in_all (tree t rest) = marks_in t ++ marks_in_all rest

-- the marks of a document, in document order
abbrev pub marks_of : {M : Type 0} → PlainDoc M → List M
marks_of doc = doc.mark ∷ marks_in doc.root

-- a list stands at this path, and this is its verdict
pub record IsVerdictAt {M : Type 0} (g : PlainDtd) (root : List ℕ) (doc : PlainDoc M)
    (path : List ℕ) (v : Verdict) : Type 0 where
  pub kids : List (Tree M)
  pub stands : list_at path doc.root ≡ Some kids
  pub judged : ∥ IsVerdict g root (record
      { path = path; owner = owner_at path doc.root; kids = forest_of kids }) v ∥₁

-- The rows tell of each list, in document order, its path, its verdict and its stamp.
pub record AreRows (s : StampedDoc) (rows : List VerdictRow) : Type 0 where
  pub paths : map (λ (row : VerdictRow). row.path) rows ≡
      map (λ (list : Listed ℕ). list.path) (lists_of s.doc)
  pub verdicts : ∥ AreVerdicts s.dtd s.root (lists_of s.doc)
      (map (λ (row : VerdictRow). row.verdict) rows) ∥₁
  pub stamps : map (λ (row : VerdictRow). row.stamp) rows ≡ marks_of s.doc

-- these are the verdicts of its lists, and the path of its first Impossible list, if there is one
abbrev pub TellVerdicts : StampedDoc → PlainVerdicts → Type 0
TellVerdicts s vs = ∥ HaveVerdicts s.dtd s.root (lists_of s.doc) vs ∥₁

-- ---- as the marks tell it
abbrev pub path_of : {M : Type 0} → Listed M → List ℕ
path_of list = list.path

abbrev pub row_path : VerdictRow → List ℕ
row_path row = row.path

abbrev pub row_verdict : VerdictRow → Verdict
row_verdict row = row.verdict

abbrev pub row_stamp : VerdictRow → ℕ
row_stamp row = row.stamp

abbrev pub row_at : List ℕ → Mark → VerdictRow
row_at path mark = record { path = path; verdict = mark.verdict; stamp = mark.stamp }

abbrev mutual
  pub rows_at : List ℕ → Tree Mark → List VerdictRow
  rows_at path (element x attrs ending kids mark) = row_at path mark ∷ rows_from path 0 kids
  rows_at path (text_node units) = []
  rows_at path (cdata_node bytes) = []
  rows_at path (misc_node bytes) = []

  pub rows_from : List ℕ → ℕ → Forest Mark → List VerdictRow
  rows_from path i no_trees = []
  rows_from path i (tree t rest) = rows_at (path ++ i ∷ []) t ++ rows_from path (suc i) rest

abbrev pub rows_of : PlainDoc Mark → List VerdictRow
rows_of doc = row_at [] doc.mark ∷ rows_at (0 ∷ []) doc.root
