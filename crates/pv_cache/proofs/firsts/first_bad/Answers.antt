use Rattle.std.proofs.Common.{ap}
use Rattle.pv_cache.specs.Firsts.{first_among}
use Rattle.pv_cache.proofs.firsts.first_bad.Goals as goal

pub loop-lists-init : goal.loop-lists-init
loop-lists-init c = ap first_among c.of-lists.ensures.marked
