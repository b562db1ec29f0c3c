use Rattle.pv_rules.specs.Barriers.{IsWithinRows}
use Rattle.pv_rules.specs.Rules.{Rule}
use Rattle.pv_rules.proofs.DerivationLaws.{held}
use Rattle.pv_rules.proofs.laws.barrier_law.Goals as goal

pub returns : goal.returns
returns c = λ g w rows b n x d. held (Rule g w) (IsWithinRows rows) b n x d
