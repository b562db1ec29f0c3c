use Rattle.pv_bounds.proofs.Stretches.{nearest_first}
use Rattle.pv_bounds.proofs.windows.furthest.Goals as goal

pub returns-then-first-records : goal.returns-then-first-records
returns-then-first-records c =
    let f = c.beginning_behind-first in
    nearest_first c.args.records.now c.requires c.args.place f.result f.ensures.behind
    (record { place = 0; end = 0 }) c.if-first-records.true
