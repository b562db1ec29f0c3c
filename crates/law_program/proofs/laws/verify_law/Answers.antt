use Rattle.law_program.proofs.VerifiedPacks.{accepts_least}
use Rattle.law_program.proofs.laws.verify_law.Goals as goal

pub returns : goal.returns
returns g c = accepts_least _
