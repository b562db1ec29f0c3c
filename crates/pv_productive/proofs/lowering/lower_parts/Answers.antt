use Rattle.std.proofs.Common.{arith, ◌-◌}
use Rattle.pv_dtd.specs.PlainForms.{plain_dtd}
use Rattle.pv_productive.specs.PlainForms.{table_of}
use Rattle.pv_productive.specs.Tables.{ArePartsSettled}
use Rattle.pv_productive.proofs.LoweredSizes.{part_more, lowered_map}
use Rattle.pv_productive.proofs.lowering.lower_parts.Goals as goal

pub loop-number-preserved : goal.loop-number-preserved
loop-number-preserved c =
    part_more (plain_dtd c.args.layout.now.dtd) (c.loop-number.number - 1) c.args.end c.loop-number.number (table_of c.args.sizes.now) (table_of c.loop-number.sizes)
    (table_of c.lower_part-part.new.sizes) (table_of c.lower_rest-rest.new.sizes) c.loop-number.changed c.lower_part-part.result c.lower_rest-rest.result
    (omega arith) c.loop-number.invariant c.lower_part-part.ensures c.lower_rest-rest.ensures

pub returns : goal.returns
returns c =
    let e = c.loop-number-test.false in
    lowered_map (plain_dtd c.args.layout.now.dtd) (ArePartsSettled (plain_dtd c.args.layout.now.dtd) c.loop-number.number c.args.end)
    (ArePartsSettled (plain_dtd c.args.layout.now.dtd) c.args.first c.args.end) (table_of c.args.sizes.now) (table_of c.loop-number.sizes) c.loop-number.changed
    (λ t h q l r. h q (omega arith) r) c.loop-number.invariant
