use Rattle.std.proofs.Common.{arith, length, ◌≡◌}
use Rattle.pv_reach.proofs.plan.plan_over.Goals as goal

pub sets_and_ranges-requires : goal.sets_and_ranges-requires
sets_and_ranges-requires c =
    let m = c.in_ok-merging.merging in let p = c.in_ok-merging.ensures in
    let count : c.len.result ≡ length m.led.items = (let z = c.len.ensures in
    omega (arith, m.led.ok.0)) in
    rw (count, c.deref.ensures.value) (record {
      in_range = p.replaces.in_range;
      heads = p.heads;
      alone = p.alone;
    })

pub returns : goal.returns
returns c =
    let m = c.in_ok-merging.merging in let p = c.in_ok-merging.ensures in
    let count : c.len.result ≡ length m.led.items = (let z = c.len.ensures in
    omega (arith, m.led.ok.0)) in
    record {
      rules = c.args.rules.now;
      are_rules = c.requires;
      replaces = rw count p.replaces;
      long = p.long;
      narrow = rw count p.narrow;
      free = rw c.deref.ensures.value at c.in_ok-free.ensures.free;
      ranges = rw c.deref.ensures.value at c.in_ok-free.ensures.ranges;
      cuts = c.none.ensures c.in_ok-merging.rules.items _;
    }
