use Rattle.pv_span.specs.Repeats.{AreSameFrom}
use Rattle.pv_span.proofs.repeats.count_same.Given as goal

abbrev pub invariant-loop-count : goal.invariant-loop-count
invariant-loop-count l = AreSameFrom l.word l.from l.again l.count
