-- How many lists have a verdict that passes a test, whatever the marks are.
use Rattle.std.proofs.Common.{List, [], ap, map, refl, subst, sym, ℕ, ◌∙◌, ◌∷◌}
use Rattle.std.specs.Prelude.{count_by}
use Rattle.pv_dtd.specs.Plain.{PlainDtd}
use Rattle.pv_tree.specs.Lists.{Listed, lists_of}
use Rattle.pv_tree.specs.Plain.{PlainDoc}
use Rattle.pv_tree.proofs.Marks.{heads-without_marks, lists_of-without_marks, unmarked_list}
use Rattle.pv_missing.specs.VerdictLaws.{OneCount, SameCounts, SameVerdicts}
use Rattle.pv_missing.specs.Verdicts.{AreVerdicts}
use Rattle.pv_missing.proofs.VerdictHeads.{verdict_by_heads}
use Rattle.pv_missing.proofs.VerdictLists.{one_list_of_verdicts}
use Rattle.pv_tree.specs.declared.nodes.Verdict.{Verdict}

verdicts_to : {M : Type 0} (g : PlainDtd) (root : List ℕ) (lists : List (Listed M)) (vs : List Verdict) → AreVerdicts g root lists vs → AreVerdicts g root (map unmarked_list lists) vs
verdicts_to g root [] vs a = a
verdicts_to {M} g root (list ∷ lists) vs a =
    (a.0, a.1, a.2, (verdict_by_heads M Unit g root list (unmarked_list list) a.0 refl (sym (heads-without_marks list.kids))).0 a.3, verdicts_to g root lists a.1 a.4)

verdicts_from : {M : Type 0} (g : PlainDtd) (root : List ℕ) (lists : List (Listed M)) (vs : List Verdict) → AreVerdicts g root (map unmarked_list lists) vs → AreVerdicts g root lists vs
verdicts_from g root [] vs a = a
verdicts_from {M} g root (list ∷ lists) vs a =
    (a.0, a.1, a.2, (verdict_by_heads M Unit g root list (unmarked_list list) a.0 refl (sym (heads-without_marks list.kids))).1 a.3, verdicts_from g root lists a.1 a.4)

pub same_verdicts : (M N : Type 0) → SameVerdicts M N
same_verdicts M N g root doc other vs e a =
    let P : List (Listed Unit) → Type 0 = λ lists. AreVerdicts g root lists vs in
    let bare = subst P (sym (lists_of-without_marks doc)) (verdicts_to g root (lists_of doc) vs a) in
    let same = subst (λ (d : PlainDoc Unit). AreVerdicts g root (lists_of d) vs) e bare in
    verdicts_from g root (lists_of other) vs (subst P (lists_of-without_marks other) same)

pub one_count_of_lists : (M : Type 0) → OneCount M
one_count_of_lists M test g root lists m n a b =
    a.count ∙ ap (count_by test) (one_list_of_verdicts M g root lists a.verdicts b.verdicts a.are_verdicts b.are_verdicts) ∙ sym b.count

pub same_counts : (M N : Type 0) → SameCounts M N
same_counts M N test g root doc other n e h =
    record { verdicts = h.verdicts; are_verdicts = same_verdicts M N g root doc other h.verdicts e h.are_verdicts; count = h.count }
