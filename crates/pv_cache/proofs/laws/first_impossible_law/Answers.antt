use Rattle.pv_cache.proofs.FirstChangedList.{first-is-first}
use Rattle.pv_cache.proofs.laws.first_impossible_law.Goals as goal

pub returns : goal.returns
returns c = first-is-first
