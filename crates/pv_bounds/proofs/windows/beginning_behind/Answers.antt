use Rattle.std.proofs.Common.{arith, ◌+◌, ◌-◌, ◌/◌}
use Rattle.pv_bounds.proofs.Stretches.{behind_more}
use Rattle.pv_bounds.proofs.windows.beginning_behind.Goals as goal

pub halves-preserved-then-records-middle : goal.halves-preserved-then-records-middle
halves-preserved-then-records-middle c =
    let i = c.halves.invariant in
    let t = c.halves-test.true in
    let middle = c.halves.low + (c.halves.high - c.halves.low) / 2 in record {
      order = omega arith;
      within = i.within;
      behind = behind_more c.args.records.now c.requires c.args.place middle
          (record { place = 0; end = 0 }) (let w = i.within in omega arith)
          c.if-records-middle.true;
    }
