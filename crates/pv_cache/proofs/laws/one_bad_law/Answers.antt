use Rattle.std.proofs.Common.{refl}
use Rattle.pv_cache.proofs.OneRows.{one_bad}
use Rattle.pv_cache.proofs.laws.one_bad_law.Goals as goal

pub returns : goal.returns
returns c = λ s m n. one_bad s s m n refl
