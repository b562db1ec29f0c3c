use Rattle.pv_reach.specs.Searches.{numbers_left}
use Rattle.pv_reach.proofs.columns.order.push_chain.Given as goal

abbrev pub decreases-loop-next : goal.decreases-loop-next
decreases-loop-next l = numbers_left l.chains l.next
