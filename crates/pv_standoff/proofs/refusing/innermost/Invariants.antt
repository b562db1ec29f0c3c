use Rattle.std.proofs.Common.{List, length}
use Rattle.pv_standoff.specs.declared.ranges.Range.{Range}
use Rattle.pv_standoff.specs.Stacks.{AreStillOpen}
use Rattle.pv_standoff.specs.PlainForms.{innermost_first}
use Rattle.pv_standoff.proofs.refusing.innermost.Given as goal

abbrev pub invariant-ended : goal.invariant-ended
invariant-ended l = (done : List Range) → AreStillOpen l.from done (innermost_first l.initial.stack.items) → AreStillOpen l.from done (innermost_first l.stack.items)

abbrev pub decreases-ended : goal.decreases-ended
decreases-ended l = length l.stack.items
