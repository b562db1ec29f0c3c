use Rattle.pv_dtd.specs.PlainForms.{plain_dtd}
use Rattle.pv_rules.proofs.Rests.{part_below}
use Rattle.pv_rules.proofs.sites.has_site.Goals as goal

pub returns-in-Part : goal.returns-in-Part
returns-in-Part c =
    rw c.in-Part.is (part_below (plain_dtd c.args.dtd.now) c.in-Part.number c.parts.result c.parts.ensures)

pub returns-in-Rest : goal.returns-in-Rest
returns-in-Rest c = rw c.in-Rest.is (c.is_member.ensures (plain_dtd c.args.dtd.now) c.requires)
