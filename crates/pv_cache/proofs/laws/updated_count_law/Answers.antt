use Rattle.pv_cache.proofs.ImpossibleCounts.{updated-counted}
use Rattle.pv_cache.proofs.laws.updated_count_law.Goals as goal

pub returns : goal.returns
returns c = updated-counted
