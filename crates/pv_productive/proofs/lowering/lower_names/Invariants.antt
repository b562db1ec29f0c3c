use Rattle.std.proofs.Common.{length}
use Rattle.pv_dtd.specs.PlainForms.{plain_dtd}
use Rattle.pv_productive.specs.PlainForms.{table_of}
use Rattle.pv_productive.specs.Tables.{AreNamesSettled, IsLowering}
use Rattle.pv_productive.proofs.lowering.lower_names.Given as goal

abbrev pub invariant-loop-name : goal.invariant-loop-name
invariant-loop-name l =
    IsLowering (plain_dtd l.layout.dtd) (AreNamesSettled (plain_dtd l.layout.dtd) l.name (length (plain_dtd l.layout.dtd).names)) (table_of l.fn.sizes) (table_of l.sizes) l.changed
