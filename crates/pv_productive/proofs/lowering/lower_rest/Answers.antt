use Rattle.std.proofs.Common.{subst, ◌≡◌}
use Rattle.pv_dtd.specs.PlainForms.{plain_dtd}
use Rattle.pv_productive.specs.PlainForms.{table_of}
use Rattle.pv_productive.specs.Tables.{IsLowered, capped}
use Rattle.pv_productive.proofs.LoweredSizes.{lowered_rest}
use Rattle.pv_productive.proofs.lowering.lower_rest.Goals as goal

pub returns : goal.returns
returns c =
    let e : c.cut-size.result ≡ capped c.sum_of_rest.result = c.cut-size.ensures in
    lowered_rest (plain_dtd c.args.layout.now.dtd) (table_of c.args.sizes.now) c.lower.new.sizes.items c.args.number c.sum_of_rest.result c.lower.result c.requires.attained
    c.requires.within c.sum_of_rest.ensures (subst (λ x. IsLowered c.args.sizes.now.rests.items c.lower.new.sizes.items c.args.number x c.lower.result) e c.lower.ensures)
