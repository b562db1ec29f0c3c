use Rattle.pv_productive.specs.PlainForms.{dtd_of}
use Rattle.pv_denial.proofs.RowIndex.{AreTaken}
use Rattle.pv_denial.proofs.listing.barrier_of.Given as goal

abbrev pub invariant-loop-number : goal.invariant-loop-number
invariant-loop-number l = AreTaken (dtd_of l.grammar) l.tokens l.rows l.number l.index
