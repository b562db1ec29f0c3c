use Rattle.std.proofs.Common.{Some, [], ap, arith, suc, sym, ◌+◌, ◌++◌, ◌∙◌, ◌∷◌, ◌≡◌}
use Rattle.pv_dtd.specs.PlainForms.{plain_dtd}
use Rattle.pv_offer.proofs.ChosenNames.{take_next}
use Rattle.pv_offer.proofs.offers.names_of.Goals as goal

pub loop-number-preserved : goal.loop-number-preserved
loop-number-preserved c =
    let n = c.loop-number.number in
    let name = c.in_ok-bytes_of.field-0 in
    let e : n + 1 ≡ suc n = omega arith in
    let next = take_next (plain_dtd c.args.dtd.now).names n name (c.name_of.ensures ∙ ap Some (sym c.in_ok-bytes_of.ensures)) in
    c.in_ok-push.ensures.items ∙ ap (λ l. l ++ name ∷ []) c.loop-number.invariant ∙ sym (rw e next)
