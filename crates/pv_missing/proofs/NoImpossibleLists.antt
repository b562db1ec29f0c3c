-- A document without Impossible lists.
use Rattle.std.proofs.Common.{List, [], ap, arith, cond, refl, sym, ℕ, ◌+◌, ◌∙◌, ◌∷◌, ◌≡◌}
use Rattle.std.proofs.lemmas.List.Sums.{sum_by-cons}
use Rattle.std.specs.List.{AllByRecursion}
use Rattle.pv_dtd.specs.Plain.{PlainDtd}
use Rattle.pv_tree.specs.Lists.{Listed, lists_of}
use Rattle.pv_missing.specs.VerdictLaws.{NoneImpossible}
use Rattle.pv_missing.specs.Verdicts.{AreVerdicts, IsLive, IsVerdict, impossible_in, is_impossible}
use Rattle.pv_missing.proofs.DocLists.{live_locality}
use Rattle.pv_tree.specs.declared.nodes.Verdict.{Verdict}
use Rattle.pv_tree.specs.declared.nodes.Verdict.TheVariants as verdict

abbrev counted : Verdict → ℕ
counted v = cond (is_impossible v) 1 0

count_more : (v : Verdict) (vs : List Verdict) → impossible_in (v ∷ vs) ≡ counted v + impossible_in vs
count_more v vs = sum_by-cons counted v vs

not_counted : {M : Type 0} (g : PlainDtd) (root : List ℕ) (list : Listed M) (v : Verdict) → IsLive g root list → IsVerdict g root list v → counted v ≡ 0
not_counted g root list verdict.Valid live j = refl
not_counted g root list verdict.Possible live j = refl
not_counted g root list verdict.Impossible live j = absurd (j live)

live_of : {M : Type 0} (g : PlainDtd) (root : List ℕ) (list : Listed M) (v : Verdict) → counted v ≡ 0 → IsVerdict g root list v → IsLive g root list
live_of g root list verdict.Valid e j = j.0
live_of g root list verdict.Possible e j = j.0
live_of g root list verdict.Impossible e j = absurd (omega arith)

none_of_live : {M : Type 0} (g : PlainDtd) (root : List ℕ) (lists : List (Listed M)) (vs : List Verdict) → AllByRecursion (IsLive g root) lists → AreVerdicts g root lists vs → impossible_in vs ≡ 0
none_of_live g root [] vs all a = let e : vs ≡ [] = a in rw e refl
none_of_live g root (list ∷ lists) vs all a =
    let here = not_counted g root list a.0 all.0 a.3 in
    let others = none_of_live g root lists a.1 all.1 a.4 in
    let whole = count_more a.0 a.1 in
    rw a.2 (omega arith)

live_of_none : {M : Type 0} (g : PlainDtd) (root : List ℕ) (lists : List (Listed M)) (vs : List Verdict) → impossible_in vs ≡ 0 → AreVerdicts g root lists vs → AllByRecursion (IsLive g root) lists
live_of_none g root [] vs e a = tt
live_of_none g root (list ∷ lists) vs e a =
    let whole : counted a.0 + impossible_in a.1 ≡ 0 = sym (count_more a.0 a.1) ∙ ap impossible_in (sym a.2) ∙ e in
    let here : counted a.0 ≡ 0 = omega arith in
    let others : impossible_in a.1 ≡ 0 = omega arith in
    (live_of g root list a.0 here a.3, live_of_none g root lists a.1 others a.4)

pub none_impossible : (M : Type 0) → NoneImpossible M
none_impossible M g root doc vs p q a = (
  λ v. none_of_live g root (lists_of doc) vs ((live_locality M g root doc p q).0 v) a,
  λ e. (live_locality M g root doc p q).1 (live_of_none g root (lists_of doc) vs e a),
)
