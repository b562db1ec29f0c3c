use Rattle.std.proofs.Common.{arith, get_or, refl, ◌+◌}
use Rattle.std.proofs.lemmas.Option.{slice_get-get_or}
use Rattle.pv_denial.proofs.RisingValues.{rise_all, rise_more}
use Rattle.pv_denial.proofs.listing.are_rising.Goals as goal

pub loop-place-preserved : goal.loop-place-preserved
loop-place-preserved c =
    let values = c.args.values.now in let l = c.loop-place in let m = c.may_stand.ensures.0 c.if-not-may_stand.false in
    rise_more values c.args.tokens l.place l.last l.invariant (get_or values l.place 0) (l.place + 1) (slice_get-get_or values l.place 0 c.loop-place-test.true) (omega arith) m.0 m.1 m.2

pub returns : goal.returns
returns c = ((λ t. rise_all c.args.values.now c.args.tokens c.loop-place.place c.loop-place.last c.loop-place.invariant c.loop-place-test.false), (λ h. refl))
