use Rattle.std.proofs.Common.{arith, length, ◌-◌}
use Rattle.pv_dtd.specs.PlainForms.{plain_dtd}
use Rattle.pv_productive.specs.PlainForms.{table_of}
use Rattle.pv_productive.specs.Tables.{AreNamesSettled}
use Rattle.pv_productive.proofs.LoweredSizes.{name_more, lowered_map}
use Rattle.pv_productive.proofs.lowering.lower_names.Goals as goal

pub loop-name-preserved : goal.loop-name-preserved
loop-name-preserved c =
    name_more (plain_dtd c.args.layout.now.dtd) (c.loop-name.name - 1) (length (plain_dtd c.args.layout.now.dtd).names) c.loop-name.name (table_of c.args.sizes.now)
    (table_of c.loop-name.sizes) (table_of c.lower_name-changed.new.sizes) c.loop-name.changed c.lower_name-changed.result (omega arith) c.loop-name.invariant
    c.lower_name-changed.ensures

pub returns : goal.returns
returns c =
    let e = c.loop-name-test.false in
    lowered_map (plain_dtd c.args.layout.now.dtd) (AreNamesSettled (plain_dtd c.args.layout.now.dtd) c.loop-name.name (length (plain_dtd c.args.layout.now.dtd).names))
    (AreNamesSettled (plain_dtd c.args.layout.now.dtd) 0 (length (plain_dtd c.args.layout.now.dtd).names)) (table_of c.args.sizes.now) (table_of c.loop-name.sizes)
    c.loop-name.changed (λ t h q l r. h q (omega arith) r) c.loop-name.invariant
