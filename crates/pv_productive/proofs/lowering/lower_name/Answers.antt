use Rattle.std.proofs.Common.{subst, ◌≡◌}
use Rattle.pv_dtd.specs.PlainForms.{plain_dtd}
use Rattle.pv_productive.specs.PlainForms.{table_of}
use Rattle.pv_productive.specs.Tables.{IsLowered, capped}
use Rattle.pv_productive.proofs.LoweredSizes.{lowered_name}
use Rattle.pv_productive.proofs.lowering.lower_name.Goals as goal

pub returns : goal.returns
returns c =
    let e : c.cut-size.result ≡ capped c.sum_of_name.result = c.cut-size.ensures in
    lowered_name (plain_dtd c.args.layout.now.dtd) (table_of c.args.sizes.now) c.lower.new.sizes.items c.args.name c.sum_of_name.result c.lower.result c.requires.attained
    c.requires.within c.sum_of_name.ensures (subst (λ x. IsLowered c.args.sizes.now.names.items c.lower.new.sizes.items c.args.name x c.lower.result) e c.lower.ensures)
