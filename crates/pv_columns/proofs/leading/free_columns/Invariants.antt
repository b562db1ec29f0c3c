use Rattle.pv_columns.specs.Frees.{AreFree}
use Rattle.pv_columns.specs.Marks.{unmarked}
use Rattle.pv_columns.proofs.leading.free_columns.Given as goal

abbrev pub invariant-loop : goal.invariant-loop
invariant-loop l = AreFree l.rules l.live l.frees.items

abbrev pub decreases-loop : goal.decreases-loop
decreases-loop l = unmarked l.frees.items
