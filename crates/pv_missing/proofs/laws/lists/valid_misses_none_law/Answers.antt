use Rattle.pv_missing.proofs.ValidLists.{valid_misses_none}
use Rattle.pv_missing.proofs.laws.lists.valid_misses_none_law.Goals as goal

pub returns : goal.returns
returns g c = valid_misses_none _
