use Rattle.pv_dtd.specs.PlainForms.{plain_dtd}
use Rattle.pv_productive.specs.PlainForms.{table_of}
use Rattle.pv_productive.specs.Tables.{IsAttained, sum_in}
use Rattle.pv_productive.proofs.settle.least_sizes.Given as goal

abbrev pub invariant-loop : goal.invariant-loop
invariant-loop l = IsAttained (plain_dtd l.layout.dtd) (table_of l.sizes)

abbrev pub decreases-loop : goal.decreases-loop
decreases-loop l = sum_in (table_of l.sizes)
