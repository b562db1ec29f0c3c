use Rattle.pv_dtd.specs.PlainForms.{plain_dtd}
use Rattle.pv_productive.specs.PlainForms.{table_of}
use Rattle.pv_productive.specs.Tables.{ArePartsSettled, IsLowering}
use Rattle.pv_productive.proofs.lowering.lower_parts.Given as goal

abbrev pub invariant-loop-number : goal.invariant-loop-number
invariant-loop-number l =
    IsLowering (plain_dtd l.layout.dtd) (ArePartsSettled (plain_dtd l.layout.dtd) l.number l.end) (table_of l.fn.sizes) (table_of l.sizes) l.changed
