use Rattle.pv_reach.proofs.PlacedNumbers.{ArePlaced}
use Rattle.pv_reach.proofs.columns.order.each_once.Given as goal

abbrev pub invariant-loop-number : goal.invariant-loop-number
invariant-loop-number l = ArePlaced l.numbers l.once.items l.flags.items l.number-index
