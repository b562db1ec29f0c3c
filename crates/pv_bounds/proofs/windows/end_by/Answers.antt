use Rattle.std.proofs.Common.{arith, get_or}
use Rattle.std.proofs.lemmas.Bool.{leb-true}
use Rattle.pv_bounds.specs.declared.windows.Stretch.{Stretch}
use Rattle.pv_bounds.proofs.Stretches.{first_farthest}
use Rattle.pv_bounds.proofs.windows.end_by.Goals as goal

pub returns-else-is_empty : goal.returns-else-is_empty
returns-else-is_empty c = λ t k e tells.
    let none : Stretch = record { place = 0; end = 0 } in
    let rs = c.args.records.now in
    let f = first_farthest rs c.requires c.args.place none k e tells in
    let l = leb-true (get_or rs 0 none).end c.args.place t in omega arith
