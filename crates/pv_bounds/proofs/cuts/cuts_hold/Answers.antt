use Rattle.std.proofs.Common.{arith, map, suc, ◌-◌}
use Rattle.pv_model.specs.PlainForms.{plain_token}
use Rattle.pv_bounds.specs.Fronts.{cost_from, empty_cost}
use Rattle.pv_bounds.specs.HoldingForms.{CutsHold}
use Rattle.pv_bounds.specs.Windows.{IsWindow}
use Rattle.pv_bounds.proofs.LevelCuts.{from_one_more}
use Rattle.pv_bounds.proofs.cuts.cuts_hold.Goals as goal

pub loop-place-preserved : goal.loop-place-preserved
loop-place-preserved c =
    let i = c.loop-place.invariant in
    let p = c.loop-place.place in
    let claim = c.args.claim.now in
    let some = c.loop-place-test.true in
    let held = c.holds_by_later.ensures c.if-not-holds_by_later.false
    (λ n after within. i.held n (omega arith) within) in record {
      falling = i.falling;
      window = i.window;
      held = from_one_more (λ n. CutsHold (map plain_token claim.word.now)
          (empty_cost claim.fronts.now.empty.items) (cost_from claim.fronts.now)
          c.args.pair.column n c.args.pair.first c.args.pair.second) p claim.tokens some i.held
          held;
    }

pub returns : goal.returns
returns c = λ t i lt.
    c.loop-place.invariant.held i (let e = c.loop-place-test.false in omega arith) lt

pub loop-place-preserved-else-not-cuts_at : goal.loop-place-preserved-else-not-cuts_at
loop-place-preserved-else-not-cuts_at c =
    let i = c.loop-place.invariant in
    let p = c.loop-place.place in
    let claim = c.args.claim.now in
    let some = c.loop-place-test.true in
    let told = c.in_ok-tell_from.ensures in
    let window : IsWindow claim.fronts.now c.args.pair.second (suc (p - 1)) claim.tokens
    c.deref.result.now = rw c.deref.ensures.value told.window in record {
      falling = told.falling;
      window = λ k le lt. told.window k (omega arith) lt;
      held = from_one_more (λ n. CutsHold (map plain_token claim.word.now)
          (empty_cost claim.fronts.now.empty.items) (cost_from claim.fronts.now)
          c.args.pair.column n c.args.pair.first c.args.pair.second) p claim.tokens some i.held
          (c.cuts_at.ensures c.if-not-cuts_at.false c.args.pair.second window);
    }
