use Rattle.law_program.proofs.JudgedDenials.{denies_impossible}
use Rattle.law_program.proofs.laws.deny_law.Goals as goal

pub returns : goal.returns
returns g c = denies_impossible _
