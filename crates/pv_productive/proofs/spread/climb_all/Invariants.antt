use Rattle.pv_dtd.specs.PlainForms.{plain_dtd}
use Rattle.pv_productive.specs.PlainForms.{table_of}
use Rattle.pv_productive.specs.Tables.{IsAttained}
use Rattle.pv_productive.specs.Turns.{turns_left}
use Rattle.pv_productive.proofs.spread.climb_all.Given as goal

abbrev pub invariant-loop-number : goal.invariant-loop-number
invariant-loop-number l = IsAttained (plain_dtd l.layout.dtd) (table_of l.sizes)

abbrev pub decreases-loop-number : goal.decreases-loop-number
decreases-loop-number l = turns_left (table_of l.sizes) l.waiting
