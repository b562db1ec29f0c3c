use Rattle.std.proofs.Common.{ap, ◌∙◌}
use Rattle.pv_dtd.specs.Plain.{declared}
use Rattle.pv_productive.specs.PlainForms.{dtd_of}
use Rattle.pv_reach.proofs.PartRules.{name_one, name_two}
use Rattle.pv_reach.proofs.rules.parts.add_name.Goals as goal

pub returns-in_ok-add-2 : goal.returns-in_ok-add-2
returns-in_ok-add-2 c =
    name_two (dtd_of c.args.grammar.now) c.args.number c.part_column-column.result c.part_column-column.ensures c.args.id.0 c.count.result c.args.rules.now.items c.add.new.rules.items
    c.add-then-id-count.new.rules.items c.requires (c.count.ensures ∙ ap declared c.dtd.ensures) c.if-id-count.true c.in_ok-add.ensures c.in_ok-add-2.ensures

pub returns-else-id-count : goal.returns-else-id-count
returns-else-id-count c =
    name_one (dtd_of c.args.grammar.now) c.args.number c.part_column-column.result c.part_column-column.ensures c.args.id.0 c.count.result c.args.rules.now.items c.add.new.rules.items c.requires
    (c.count.ensures ∙ ap declared c.dtd.ensures) c.if-id-count.false c.in_ok-add.ensures
