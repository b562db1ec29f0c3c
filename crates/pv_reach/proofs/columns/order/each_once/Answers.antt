use Rattle.std.proofs.Common.{Contains, List, arith, ap, false, get_or, subst, sym, ℕ, ◌∙◌}
use Rattle.std.proofs.lemmas.List.{take_all}
use Rattle.pv_reach.proofs.PlacedNumbers.{placed_before, placed_none, placed_now}
use Rattle.pv_reach.proofs.columns.order.each_once.Goals.{then-not-is_marked+in_ok-push, else-not-is_marked}
use Rattle.pv_reach.proofs.columns.order.each_once.Goals as goal

pub loop-number-init : goal.loop-number-init
loop-number-init c = placed_none c.args.numbers.now c.new-once.result.items c.in_ok-flags.flags.items c.args.count (c.in_ok-flags.ensures.items_if_clones_equal (λ y e. e))

pub loop-number-preserved : goal.loop-number-preserved
loop-number-preserved c = elim c.if-not-is_marked.branch [
  | then-not-is_marked+in_ok-push w ↦
      rw (w.once-is, w.flags-is)
      (placed_now c.args.numbers.now c.loop-number.once.items c.loop-number.flags.items
      c.loop-number.number-index c.loop-number.invariant c.loop-number-test.true
      w.push.new.self.items w.set_flag.new.flags.items
      w.in_ok-push.ensures.items w.set_flag.ensures.set)
  | else-not-is_marked w ↦
      rw (w.once-is, w.flags-is)
      (placed_before c.args.numbers.now c.loop-number.once.items c.loop-number.flags.items c.loop-number.number-index c.loop-number.invariant c.loop-number-test.true
      (ap (λ v. get_or v (get_or c.args.numbers.now c.loop-number.number-index 0) false) (sym c.deref.ensures.value) ∙ sym c.is_marked.ensures ∙ w.if-not-is_marked.false))
]

pub returns : goal.returns
returns c = λ x con. c.loop-number.invariant.passed x
    (let P : List ℕ → Type 0 = λ v. Contains v x in subst P
    (sym (take_all c.loop-number.number-index c.args.numbers.now
    (let t = c.loop-number-test.false in omega arith))) con)
