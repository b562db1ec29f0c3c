use Rattle.law_program.proofs.Causes.{comes_by_cause, raises_one_at_most}
use Rattle.law_program.proofs.laws.causes_law.Goals as goal

pub returns : goal.returns
returns g c = record { causes = comes_by_cause _; one = raises_one_at_most _ }
