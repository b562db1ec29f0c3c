use Rattle.std.proofs.Common.{◌≡◌, ◌≤◌}
use Rattle.pv_dtd.specs.PlainForms.{plain_dtd}
use Rattle.pv_productive.specs.PlainForms.{table_of}
use Rattle.pv_productive.specs.Tables.{IsAttained, sum_in}
use Rattle.pv_productive.specs.Turns.{parts_waiting}
use Rattle.pv_productive.proofs.spread.climb.Given as goal

abbrev pub invariant-loop-site : goal.invariant-loop-site
invariant-loop-site l = record {
  attained : IsAttained (plain_dtd l.layout.dtd) (table_of l.sizes);
  most : sum_in (table_of l.sizes) ≤ sum_in (table_of l.initial.sizes);
  waiting : parts_waiting l.waiting ≡ parts_waiting l.initial.waiting;
}

abbrev pub decreases-loop-site : goal.decreases-loop-site
decreases-loop-site l = sum_in (table_of l.sizes)
