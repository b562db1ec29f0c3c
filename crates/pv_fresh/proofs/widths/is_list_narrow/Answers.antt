use Rattle.std.proofs.Common.{length, refl}
use Rattle.pv_dtd.specs.PlainForms.{plain_dtd}
use Rattle.pv_missing.specs.Widths.{FitsVerdict}
use Rattle.pv_fresh.proofs.NarrowLists.{few_tokens, fits_less}
use Rattle.pv_fresh.proofs.widths.is_list_narrow.Goals as goal

pub returns-then-is_narrow : goal.returns-then-is_narrow
returns-then-is_narrow c =
    let g = plain_dtd c.args.dtd.now in
    let fits : FitsVerdict g (length c.args.kids.now) = c.if-is_narrow.ensures.0 refl in
    (λ _. fits_less g _ _ (few_tokens g c.args.kids.now) fits, λ _. refl)
