use Rattle.pv_cache.proofs.Docs.{updated-marked}
use Rattle.pv_cache.proofs.laws.updated_law.Goals as goal

pub returns : goal.returns
returns c = updated-marked
