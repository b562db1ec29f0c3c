use Rattle.std.proofs.Common.{ap, subst, ◌∙◌, ◌≡◌}
use Rattle.pv_dtd.specs.PlainForms.{plain_dtd}
use Rattle.pv_productive.specs.PlainForms.{table_of}
use Rattle.pv_productive.specs.Tables.{IsLowered, capped}
use Rattle.pv_productive.proofs.LoweredSizes.{lowered_part}
use Rattle.pv_productive.proofs.lowering.lower_part.Goals as goal

pub returns : goal.returns
returns c =
    let e : c.cut-size.result ≡ capped c.size_of_part.result = c.cut-size.ensures ∙ ap capped c.from.ensures in
    lowered_part (plain_dtd c.args.layout.now.dtd) (table_of c.args.sizes.now) c.lower.new.sizes.items c.args.number c.size_of_part.result c.lower.result c.requires.attained
    c.requires.within c.size_of_part.ensures (subst (λ x. IsLowered c.args.sizes.now.parts.items c.lower.new.sizes.items c.args.number x c.lower.result) e c.lower.ensures)
