-- What marks tell of lists, as a walk comes to them.
use Rattle.std.proofs.Common.{List, [], ap, append_assoc, map, refl, suc, ℕ, ◌++◌, ◌∷◌, ◌≡◌}
use Rattle.std.proofs.lemmas.List.{map-append}
use Rattle.pv_edit.specs.declared.answers.VerdictRow.{VerdictRow}
use Rattle.pv_tree.specs.MarkedLists.{MarkedList, marked_at, marked_from, marked_of}
use Rattle.pv_tree.specs.Plain.{Forest, PlainDoc, Tree, cdata_node, element, misc_node, no_trees, text_node, tree}
use Rattle.pv_tree.specs.declared.nodes.Mark.{Mark}
use Rattle.pv_tree.specs.declared.nodes.Verdict.{Verdict}
use Rattle.pv_cache.specs.Rows.{row_at, rows_at, rows_from, rows_of}
use Rattle.pv_cache.specs.WellMarked.{told_verdicts, told_verdicts_in, verdicts_told}

abbrev pub row_by : MarkedList Mark → VerdictRow
row_by marked = row_at marked.list.path marked.mark

abbrev pub verdict_by : MarkedList Mark → Verdict
verdict_by marked = marked.mark.verdict

-- what is told of the lists so far goes on with what is told of those that are left
pub told_next : {B : Type 0} (f : MarkedList Mark → B) (left rest : List (MarkedList Mark)) (m : MarkedList Mark) (told now all : List B) → left ≡ m ∷ rest → now ≡ told ++ f m ∷ [] →
    told ++ map f left ≡ all → now ++ map f rest ≡ all
told_next f left rest m told now all e h goes = rw (h, append_assoc told (f m ∷ []) (map f rest)) (rw e at goes)

mutual
  rows_by_at : (path : List ℕ) (t : Tree Mark) → map row_by (marked_at path t) ≡ rows_at path t
  rows_by_at path (element x a e kids m) = ap (λ rows. row_at path m ∷ rows) (rows_by_from path 0 kids)
  rows_by_at path (text_node us) = refl
  rows_by_at path (cdata_node b) = refl
  rows_by_at path (misc_node b) = refl

  rows_by_from : (path : List ℕ) (i : ℕ) (kids : Forest Mark) → map row_by (marked_from path i kids) ≡ rows_from path i kids
  rows_by_from path i no_trees = refl
  rows_by_from path i (tree t rest) = rw (map-append row_by (marked_at (path ++ i ∷ []) t) (marked_from path (suc i) rest), rows_by_at (path ++ i ∷ []) t, rows_by_from path (suc i) rest) refl

pub rows_by : (doc : PlainDoc Mark) → map row_by (marked_of doc) ≡ rows_of doc
rows_by doc = ap (λ rows. row_at [] doc.mark ∷ rows) (rows_by_at (0 ∷ []) doc.root)

mutual
  verdicts_by_at : (path : List ℕ) (t : Tree Mark) → map verdict_by (marked_at path t) ≡ told_verdicts t
  verdicts_by_at path (element x a e kids m) = ap (λ vs. m.verdict ∷ vs) (verdicts_by_from path 0 kids)
  verdicts_by_at path (text_node us) = refl
  verdicts_by_at path (cdata_node b) = refl
  verdicts_by_at path (misc_node b) = refl

  verdicts_by_from : (path : List ℕ) (i : ℕ) (kids : Forest Mark) → map verdict_by (marked_from path i kids) ≡ told_verdicts_in kids
  verdicts_by_from path i no_trees = refl
  verdicts_by_from path i (tree t rest) =
      rw (
        map-append verdict_by (marked_at (path ++ i ∷ []) t) (marked_from path (suc i) rest),
        verdicts_by_at (path ++ i ∷ []) t,
        verdicts_by_from path (suc i) rest,
      ) refl

pub verdicts_by : (doc : PlainDoc Mark) → map verdict_by (marked_of doc) ≡ verdicts_told doc
verdicts_by doc = ap (λ vs. doc.mark.verdict ∷ vs) (verdicts_by_at (0 ∷ []) doc.root)
