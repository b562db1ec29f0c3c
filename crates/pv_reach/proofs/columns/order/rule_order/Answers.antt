use Rattle.std.proofs.Common.{Contains, List, arith, subst, sym, ℕ}
use Rattle.pv_reach.proofs.ContentRules.{if_ok_as}
use Rattle.pv_reach.proofs.NameRules.{one_more_name}
use Rattle.pv_reach.proofs.columns.order.rule_order.Goals as goal

pub loop-number-preserved : goal.loop-number-preserved
loop-number-preserved c = one_more_name c.loop-number.numbers.items c.push.new.self.items c.loop-number.number c.in_ok-push.ensures.items c.loop-number.invariant

pub returns : goal.returns
returns c =
    if_ok_as c.each_once.result _ _
    (λ order all x lt. all x
    (let P : List ℕ → Type 0 = λ v. Contains v x in subst P (sym c.deref.ensures.value) (c.loop-number.invariant x (let t = c.loop-number-test.false in omega arith)))) c.each_once.ensures
