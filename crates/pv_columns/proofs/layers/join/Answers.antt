use Rattle.std.proofs.Common.{arith}
use Rattle.pv_columns.proofs.EdgeJoins.{set_less}
use Rattle.pv_columns.proofs.layers.join.Goals as goal

pub returns-clause-less : goal.returns-clause-less
returns-clause-less c = λ _. set_less 18446744073709551616 c.args.layer.now c.args.edge.from
    c.union-joined.result c.requires.from
    (omega (arith, c.union-joined.ensures.most, c.if-joined-layer.false)) (c.union-joined.ensures.fits)
