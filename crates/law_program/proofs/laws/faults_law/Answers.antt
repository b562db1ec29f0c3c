use Rattle.law_program.proofs.Faults.{faults_show}
use Rattle.law_program.proofs.laws.faults_law.Goals as goal

pub returns : goal.returns
returns g c = faults_show _
