use Rattle.std.proofs.Common.{refl}
use Rattle.pv_offer.specs.Offers.{edit_with}
use Rattle.pv_offer.proofs.trying.try_name.Goals as goal

pub returns : goal.returns
returns c = λ offered.
    let s = c.args.marked.now in
    let edit = edit_with c.args.ask.now c.args.name.now in
    let (x, acc) = offered in
    let none = c.accepted_law.ensures 0 0 s.dtd s.root s.doc s.doc edit x c.in-Err-Impossible.field-0 refl acc c.in-Err-Impossible.ensures.refused in
    let is = c.in-Err-Impossible.field-0-is in
    absurd cc
