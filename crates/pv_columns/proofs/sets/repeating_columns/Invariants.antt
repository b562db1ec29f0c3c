use Rattle.pv_columns.specs.Frees.{RepeatBefore}
use Rattle.pv_columns.proofs.sets.repeating_columns.Given as goal

abbrev pub invariant-loop-number : goal.invariant-loop-number
invariant-loop-number l = RepeatBefore l.rules l.live l.number l.frees.items
