use Rattle.std.proofs.Common.{◌-◌, ◌^◌}
use Rattle.pv_long.proofs.making.spreading.settle.Given as goal

abbrev pub decreases-rounds : goal.decreases-rounds
decreases-rounds l = 2 ^ 32 - l.least
