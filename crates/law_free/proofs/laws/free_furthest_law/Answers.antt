use Rattle.law_free.proofs.Runs.{free_furthest}
use Rattle.law_free.proofs.laws.free_furthest_law.Goals as goal

pub returns : goal.returns
returns c = free_furthest
