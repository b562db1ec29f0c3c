use Rattle.std.proofs.Common.{arith, ◌∙◌}
use Rattle.pv_reach.proofs.LinkedColumns.{alike}
use Rattle.pv_reach.proofs.graph.components.components_by.Goals as goal

pub returns-clause-long : goal.returns-clause-long
returns-clause-long c = c.in_ok-heads.ensures.long ∙ c.in_ok-above.ensures.0

pub returns-clause-alike : goal.returns-clause-alike
returns-clause-alike c = λ rules are.
    let heads = c.in_ok-heads.ensures in
    let above = c.in_ok-above.ensures in
    alike rules c.args.edges.now c.args.turned.now c.in_ok-above.above.table.items heads.below
    c.in_ok-heads.heads.items c.args.width are c.requires (heads.long ∙ above.0) above.0
    (heads.as_long ∙ above.0) above.1 heads.led
    (λ x lt. heads.are x (omega (arith, above.0)))
