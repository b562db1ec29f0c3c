use Rattle.std.proofs.Common.{get_or, ◌≡◌}
use Rattle.std.specs.Prelude.{bit_or}
use Rattle.pv_columns.proofs.RepeatedColumns.{or_only}
use Rattle.pv_columns.proofs.frees.put_all.Goals as goal

pub returns-clause-only : goal.returns-clause-only
returns-clause-only c =
    let v : c.union.result ≡ bit_or (get_or c.args.repeats.now c.args.column 0) (get_or c.args.layer.now c.args.other 0) = c.union.ensures.value in
    rw v (λ d k h. or_only c.args.repeats.now c.args.column (get_or c.args.layer.now c.args.other 0) d k c.requires.column h)
