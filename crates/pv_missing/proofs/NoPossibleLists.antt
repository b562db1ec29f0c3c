-- A document without Possible lists.
use Rattle.std.proofs.Common.{List, [], ap, arith, cond, refl, sym, ℕ, ◌+◌, ◌∙◌, ◌∷◌, ◌≡◌}
use Rattle.std.proofs.lemmas.List.Sums.{sum_by-cons}
use Rattle.std.specs.List.{AllByRecursion}
use Rattle.pv_dtd.specs.Plain.{PlainDtd}
use Rattle.pv_tree.specs.Lists.{IsValidList, Listed, lists_of}
use Rattle.pv_tree.specs.View.{view}
use Rattle.pv_tree.proofs.ValidLists.{valid_lists}
use Rattle.pv_missing.specs.VerdictLaws.{NonePossible}
use Rattle.pv_missing.specs.Verdicts.{AreVerdicts, IsLive, IsVerdict, is_possible, possible_in}
use Rattle.pv_missing.proofs.DocLists.{live_locality}
use Rattle.pv_missing.proofs.OneList.{extends_refl}
use Rattle.pv_tree.specs.declared.nodes.Verdict.{Verdict}
use Rattle.pv_tree.specs.declared.nodes.Verdict.TheVariants as verdict

abbrev pub counted : Verdict → ℕ
counted v = cond (is_possible v) 1 0

pub count_more : (v : Verdict) (vs : List Verdict) → possible_in (v ∷ vs) ≡ counted v + possible_in vs
count_more v vs = sum_by-cons counted v vs

-- a list that is valid by itself isn't Possible
not_possible : {M : Type 0} (g : PlainDtd) (root : List ℕ) (list : Listed M) (v : Verdict) → IsValidList g root list → IsVerdict g root list v → counted v ≡ 0
not_possible g root list verdict.Valid own j = refl
not_possible g root list verdict.Possible own j = absurd (j.1 own)
not_possible g root list verdict.Impossible own j = refl

none_of_valid : {M : Type 0} (g : PlainDtd) (root : List ℕ) (lists : List (Listed M)) (vs : List Verdict) → AllByRecursion (IsValidList g root) lists → AreVerdicts g root lists vs → possible_in vs ≡ 0
none_of_valid g root [] vs all a = let e : vs ≡ [] = a in rw e refl
none_of_valid g root (list ∷ lists) vs all a =
    let here = not_possible g root list a.0 all.0 a.3 in
    let others = none_of_valid g root lists a.1 all.1 a.4 in
    let whole = count_more a.0 a.1 in
    rw a.2 (omega arith)

-- and one that is live and isn't Possible is valid by itself
own_of : {M : Type 0} (g : PlainDtd) (root : List ℕ) (list : Listed M) (v : Verdict) → IsLive g root list → counted v ≡ 0 → IsVerdict g root list v → IsValidList g root list
own_of g root list verdict.Valid live e j = j.1
own_of g root list verdict.Possible live e j = absurd (omega arith)
own_of g root list verdict.Impossible live e j = absurd (j live)

valid_of_none : {M : Type 0} (g : PlainDtd) (root : List ℕ) (lists : List (Listed M)) (vs : List Verdict) → AllByRecursion (IsLive g root) lists → possible_in vs ≡ 0 → AreVerdicts g root lists vs →
    AllByRecursion (IsValidList g root) lists
valid_of_none g root [] vs live e a = tt
valid_of_none g root (list ∷ lists) vs live e a =
    let whole : counted a.0 + possible_in a.1 ≡ 0 = sym (count_more a.0 a.1) ∙ ap possible_in (sym a.2) ∙ e in
    let here : counted a.0 ≡ 0 = omega arith in
    let others : possible_in a.1 ≡ 0 = omega arith in
    (own_of g root list a.0 live.0 here a.3, valid_of_none g root lists a.1 live.1 others a.4)

pub none_possible : (M : Type 0) → NonePossible M
none_possible M g root doc vs p q a = (
  λ v. (record { hedge = view doc.root; extends = extends_refl (view doc.root); valid = v }, none_of_valid g root (lists_of doc) vs ((valid_lists g root doc q.units).1 v) a),
  λ h. (valid_lists g root doc q.units).0 (valid_of_none g root (lists_of doc) vs ((live_locality M g root doc p q).0 h.0) h.1 a),
)
