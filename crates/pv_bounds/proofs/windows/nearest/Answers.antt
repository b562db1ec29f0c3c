use Rattle.std.proofs.Common.{arith}
use Rattle.pv_bounds.specs.declared.windows.Stretch.{Stretch}
use Rattle.pv_bounds.proofs.Stretches.{last_nearest}
use Rattle.pv_bounds.proofs.windows.nearest.Goals as goal

pub returns-clause-all : goal.returns-clause-all
returns-clause-all c = λ m d lt.
    let none : Stretch = record { place = 0; end = 0 } in
    let l = last_nearest c.args.records.now c.requires c.args.place none m d lt in
    let e = c.min.ensures in omega arith
