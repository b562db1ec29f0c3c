use Rattle.pv_columns.specs.Marks.{AreNullable}
use Rattle.pv_reach.proofs.columns.bare.bare_columns.Given as goal

abbrev pub invariant-loop-rule : goal.invariant-loop-rule
invariant-loop-rule l = AreNullable l.rules l.flags.items
