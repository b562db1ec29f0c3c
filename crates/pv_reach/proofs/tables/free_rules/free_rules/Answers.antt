use Rattle.std.proofs.Common.{Contains, List, arith, get_or, inl, inr, length, subst, sym, ℕ, ◌<◌, ◌≤◌}
use Rattle.std.proofs.lemmas.List.{take_all}
use Rattle.pv_reach.specs.Cuts.{AddsCut, HasCut}
use Rattle.pv_reach.proofs.NameRules.{either_name}
use Rattle.pv_reach.proofs.RangesOfRules.{has_still, no_rules}
use Rattle.pv_reach.proofs.tables.free_rules.free_rules.Goals as goal

pub loop-left-init : goal.loop-left-init
loop-left-init c = record {
  cut = no_rules c.args.plan.now.rules.items c.args.cut.now.names.items c.new-few.result.items c.new-few.ensures.items;
  has = λ k con. absurd (let l = con.1 in omega arith);
}

pub loop-left-preserved : goal.loop-left-preserved
loop-left-preserved c =
    let rules = c.args.plan.now.rules.items in let names = c.args.cut.now.names.items in let frees = c.args.cut.now.frees.items in let i = c.loop-left.left-index in
    let tokens = c.args.tokens.now in let old = c.loop-left.few.items in let new = c.add_free_at.new.few.items in let e = c.in_ok-add_free_at.ensures in
    let L : List ℕ → Type 0 = λ v. i < length v in
    let A : List ℕ → Type 0 = λ v. AddsCut rules v old new in
    let F : List ℕ → Type 0 = λ v. HasCut rules c.deref.result.now new tokens (get_or v i 0) in
    let N : List ℕ → Type 0 = λ v. HasCut rules v new tokens (get_or frees i 0) in
    let lt : i < length frees = subst L c.deref-left-items.ensures.value c.loop-left-test.true in
    let adds : AddsCut rules names old new = subst A c.deref.ensures.value e.adds in
    let here : HasCut rules names new tokens (get_or frees i 0) = subst N c.deref.ensures.value (subst F c.deref-left-items.ensures.value e.has) in
    record {
      cut = adds.cut c.loop-left.invariant.cut;
      has = λ k con. elim (either_name frees i lt k con) [
        | inl h ↦ has_still rules names tokens old new k adds.grow (c.loop-left.invariant.has k h)
        | inr z ↦ (let P : ℕ → Type 0 = λ v. HasCut rules names new tokens v in subst P (sym z) here)
      ];
    }

pub returns-clause-has : goal.returns-clause-has
returns-clause-has c = λ l con.
    let frees = c.args.cut.now.frees.items in
    let P : List ℕ → Type 0 = λ v. Contains v l in
    let E : List ℕ → Type 0 = λ v. length v ≤ c.loop-left.left-index in
    c.loop-left.invariant.has l (subst P (sym (take_all c.loop-left.left-index frees (subst E c.deref-left-items.ensures.value c.loop-left-test.false))) con)
