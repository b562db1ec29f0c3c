-- The rows of a document are one list, and the numbers of its Possible and its Impossible lists are
-- one number each.
use Rattle.std.proofs.Common.{List, [], ap, map, refl, subst, sym, ℕ, ◌∙◌, ◌∷◌, ◌≡◌}
use Rattle.std.proofs.Math.Logic.{∥∥₁_elim}
use Rattle.std.specs.Coded.{Coded-set, coded_list, coded_ℕ}
use Rattle.pv_edit.specs.declared.answers.VerdictRow.{VerdictRow}
use Rattle.pv_missing.specs.Verdicts.{is_impossible, is_possible}
use Rattle.pv_missing.proofs.Counts.{one_count_of_lists}
use Rattle.pv_missing.proofs.VerdictLists.{one_list_of_verdicts}
use Rattle.pv_tree.specs.Lists.{lists_of}
use Rattle.pv_tree.specs.contracts.nodes.Verdict as verdict
use Rattle.pv_cache.specs.Moves.{HasBad, HasOpen}
use Rattle.pv_cache.specs.Rows.{AreRows, row_path, row_stamp, row_verdict}
use Rattle.pv_cache.specs.Stamps.{StampedDoc}

-- rows that tell the same, part by part
same_rows : (rows other : List VerdictRow) → map row_path rows ≡ map row_path other →
    map row_verdict rows ≡ map row_verdict other → map row_stamp rows ≡ map row_stamp other →
    rows ≡ other
same_rows [] [] p v s = refl
same_rows [] (row ∷ other) p v s = absurd cc
same_rows (row ∷ rows) [] p v s = absurd cc
same_rows (row ∷ rows) (first ∷ other) p v s =
    let a : row.path ≡ first.path = cc in
    let b : row.verdict ≡ first.verdict = cc in
    let c : row.stamp ≡ first.stamp = cc in
    let q : map row_path rows ≡ map row_path other = cc in
    let w : map row_verdict rows ≡ map row_verdict other = cc in
    let t : map row_stamp rows ≡ map row_stamp other = cc in
    let r : row ≡ first =
    ap (λ x. record { path = x; verdict = row.verdict; stamp = row.stamp }) a
    ∙ ap (λ x. record { path = first.path; verdict = x; stamp = row.stamp }) b
    ∙ ap (λ x. record { path = first.path; verdict = first.verdict; stamp = x }) c in
    ap (λ (x : VerdictRow). x ∷ rows) r
    ∙ ap (λ (l : List VerdictRow). first ∷ l) (same_rows rows other q w t)

pub one_rows : (s : StampedDoc) (rows other : List VerdictRow) → AreRows s rows → AreRows s other →
    rows ≡ other
one_rows s rows other a b =
    let set =
    Coded-set (coded_list verdict.the_row.coded) (map row_verdict rows) (map row_verdict other) in
    let same : map row_verdict rows ≡ map row_verdict other =
    ∥∥₁_elim a.verdicts set (λ x.
    ∥∥₁_elim b.verdicts set (λ y.
    one_list_of_verdicts ℕ s.dtd s.root (lists_of s.doc) (map row_verdict rows)
    (map row_verdict other) x y)) in
    same_rows rows other (a.paths ∙ sym b.paths) same (a.stamps ∙ sym b.stamps)

pub one_open : (s t : StampedDoc) (m n : ℕ) → s ≡ t → HasOpen s m → HasOpen t n → m ≡ n
one_open s t m n e a b =
    let c : HasOpen t m = subst (λ (u : StampedDoc). HasOpen u m) e a in
    ∥∥₁_elim c (Coded-set coded_ℕ m n) (λ x.
    ∥∥₁_elim b (Coded-set coded_ℕ m n) (λ y.
    one_count_of_lists ℕ is_possible t.dtd t.root (lists_of t.doc) m n x y))

pub one_bad : (s t : StampedDoc) (m n : ℕ) → s ≡ t → HasBad s m → HasBad t n → m ≡ n
one_bad s t m n e a b =
    let c : HasBad t m = subst (λ (u : StampedDoc). HasBad u m) e a in
    ∥∥₁_elim c (Coded-set coded_ℕ m n) (λ x.
    ∥∥₁_elim b (Coded-set coded_ℕ m n) (λ y.
    one_count_of_lists ℕ is_impossible t.dtd t.root (lists_of t.doc) m n x y))
