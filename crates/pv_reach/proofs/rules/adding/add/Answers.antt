use Rattle.pv_columns.specs.declared.rules.ColumnRule.{ColumnRule}
use Rattle.pv_reach.proofs.PushedRules.{added}
use Rattle.pv_reach.proofs.rules.adding.add.Goals as goal

pub returns : goal.returns
returns c =
    let r : ColumnRule = record { left = c.args.left; token = c.args.token; columns = c.in_ok-columns.columns } in
    added c.args.rules.now.items c.push.new.self.items r c.args.columns.now c.in_ok-push.ensures.items c.in_ok-columns.ensures.items
