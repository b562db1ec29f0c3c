use Rattle.std.proofs.Common.{arith, subst, sym, ℕ, ◌+◌, ◌≤◌}
use Rattle.pv_bounds.specs.Fronts.{front_list, least_to, shared_reach}
use Rattle.pv_bounds.specs.Windows.{TellsReach}
use Rattle.pv_bounds.specs.declared.fronts.Reach.{Reach}
use Rattle.pv_bounds.proofs.LevelCuts.{first_one_more}
use Rattle.pv_bounds.proofs.cuts.all_levels_hold.Goals as goal

pub loop-index-preserved : goal.loop-index-preserved
loop-index-preserved c =
    let none : Reach = shared_reach 0 0 in
    let ones = front_list c.args.ones.now.front in
    first_one_more (λ (x : Reach). (k : ℕ) (r : Reach) → k ≤ x.end →
    TellsReach c.args.levels.now k r → least_to r.end ones ≤ x.cost + r.cost)
    (front_list c.args.firsts.now) c.loop-index.index none
    (let t = c.loop-index-test.true in let n = c.len-index-end.ensures in omega arith)
    c.loop-index.invariant
    (subst (λ (x : Reach). (k : ℕ) (r : Reach) → k ≤ x.end →
    TellsReach c.args.levels.now k r → least_to r.end ones ≤ x.cost + r.cost)
    (sym (c.get.ensures none)) (c.levels_hold.ensures c.if-not-levels_hold.false))

pub returns : goal.returns
returns c = λ t m d lt.
    c.loop-index.invariant m d (let e = c.loop-index-test.false in omega arith)
