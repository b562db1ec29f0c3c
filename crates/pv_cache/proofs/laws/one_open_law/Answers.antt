use Rattle.std.proofs.Common.{refl}
use Rattle.pv_cache.proofs.OneRows.{one_open}
use Rattle.pv_cache.proofs.laws.one_open_law.Goals as goal

pub returns : goal.returns
returns c = λ s m n. one_open s s m n refl
