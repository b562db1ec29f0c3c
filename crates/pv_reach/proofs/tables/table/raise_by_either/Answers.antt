use Rattle.std.proofs.Common.{◌++◌}
use Rattle.pv_reach.proofs.RuleLists.{front_among, rules_among, rules_in_range}
use Rattle.pv_reach.proofs.tables.table.raise_by_either.Goals as goal

pub raise-requires-2-clause-in_range : goal.raise-requires-2-clause-in_range
raise-requires-2-clause-in_range c = rules_in_range c.args.width c.args.front.now c.args.rules.now c.requires.in_range

pub raise-requires-2-clause-attained : goal.raise-requires-2-clause-attained
raise-requires-2-clause-attained c = (
  c.args.front.now ++ c.args.rules.now,
  c.requires.in_range,
  rules_among c.args.front.now c.args.rules.now,
  c.raise.ensures.attained (c.args.front.now ++ c.args.rules.now) c.requires.in_range (front_among c.args.front.now c.args.rules.now) c.requires.attained,
)

pub returns-clause-attained : goal.returns-clause-attained
returns-clause-attained c =
    let all = c.args.front.now ++ c.args.rules.now in
    c.raise-2.ensures.attained all c.requires.in_range (rules_among c.args.front.now c.args.rules.now)
    (c.raise.ensures.attained all c.requires.in_range (front_among c.args.front.now c.args.rules.now) c.requires.attained)
