use Rattle.std.proofs.Common.{subst}
use Rattle.std.proofs.lemmas.List.{length-map}
use Rattle.pv_dtd.specs.PlainForms.{plain_dtd}
use Rattle.pv_productive.specs.PlainForms.{table_of}
use Rattle.pv_productive.specs.Tables.{ArePartsSettled, IsLowering}
use Rattle.pv_productive.proofs.LoweredSizes.{all_lowered}
use Rattle.pv_productive.proofs.lowering.lower_all.Goals as goal

pub returns : goal.returns
returns c =
    let n = c.parts.ensures in
    all_lowered (plain_dtd c.args.layout.now.dtd) (table_of c.args.sizes.now) (table_of c.lower_parts-parts.new.sizes) (table_of c.lower_names-names.new.sizes)
    c.lower_parts-parts.result c.lower_names-names.result (simp length-map c.args.layout.now.dtd.named) c.requires
    (subst (λ x. IsLowering (plain_dtd c.args.layout.now.dtd) (ArePartsSettled (plain_dtd c.args.layout.now.dtd) 0 x) (table_of c.args.sizes.now)
    (table_of c.lower_parts-parts.new.sizes) c.lower_parts-parts.result) (rw c.dtd.ensures at n) c.lower_parts-parts.ensures)
    c.lower_names-names.ensures
