use Rattle.pv_rules.proofs.RulesByKind.{by_kind, from_kind}
use Rattle.pv_rules.proofs.laws.kinds_law.Goals as goal

pub returns : goal.returns
returns c = λ g w s i j k xs. (by_kind g w s i j k xs, from_kind g w s i j k xs)
