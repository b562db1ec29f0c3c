use Rattle.law_free.proofs.Runs.{free_derives_taken}
use Rattle.law_free.proofs.laws.free_law.Goals as goal

pub returns : goal.returns
returns c = free_derives_taken
