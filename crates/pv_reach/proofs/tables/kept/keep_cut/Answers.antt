use Rattle.pv_reach.proofs.FreeRules.{one_more_cut}
use Rattle.pv_reach.proofs.RangesOfRules.{on_ok_as}
use Rattle.pv_reach.proofs.tables.kept.keep_cut.Goals as goal

pub returns-in-Ok : goal.returns-in-Ok
returns-in-Ok c =
    on_ok_as c.push.result _ _
    (λ e are. one_more_cut c.args.plan.now.rules.items c.args.plan.now.width c.args.cuts.now c.push.new.self c.in-Ok.cut e c.in-Ok.ensures.cut are) c.push.ensures
