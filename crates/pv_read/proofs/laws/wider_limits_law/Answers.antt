use Rattle.pv_read.proofs.WiderLimits.{means_within_wider}
use Rattle.pv_read.proofs.laws.wider_limits_law.Goals as goal

pub returns : goal.returns
returns c = means_within_wider
