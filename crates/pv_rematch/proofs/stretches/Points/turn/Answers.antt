use Rattle.std.proofs.Common.{◌≡◌, ◌+◌, ◌≤◌, ◌++◌, List, length, map, take, arith, subst}
use Rattle.std.proofs.lemmas.Grind.{common_steps}
use Rattle.std.proofs.lemmas.List.{length-map}
use Rattle.pv_model.specs.Plain.{PlainToken}
use Rattle.pv_model.specs.PlainForms.{plain_part, plain_token}
use Rattle.pv_rematch.specs.Stretches.{AreOf}
use Rattle.pv_rematch.proofs.TurnedPoints.{before_map, stays, waits_behind}
use Rattle.pv_rematch.proofs.KeptWalks.{ok_one}
use Rattle.pv_rematch.proofs.stretches.Points.turn.Goals as goal

pub returns : goal.returns
returns c =
    let p = plain_part c.args.part.now in
    let change = c.args.change.now in
    let from = change.from in
    let came = change.came in
    let ts = change.word.now in
    let w = map plain_token ts in
    let gone = map plain_token change.gone.now in
    let points = c.args.self.now in
    let start = c.in_ok-start.ensures in
    let known = c.in_ok-start.start.known in
    let old = c.point_behind-old in
    let end = c.in_ok-limit.limit in
    let long = length-map change.gone.now plain_token in
    let room : from + came ≤ length w = omega (arith, change.within, length-map ts plain_token) in
    let limit : end ≡ from + length gone = grind (arith, common_steps, long) in
    let P : List PlainToken → Type 0 = λ l. AreOf p l points in
    ok_one _ _ c.walk_on.result (λ s make h.
    let before = subst P (before_map ts change.gone.now from came) h in
    let k =
    stays p w gone points from came known.count known.place room start.place start.order before in
    make (take from w ++ gone) k (start.after k.before k.lead)
    (waits_behind p ts gone points from came end old.result.number old.result.distance
    (omega (arith, change.within)) limit before
    (rw c.as_slice.ensures.value at old.ensures.within)
    (rw c.as_slice.ensures.value at old.ensures.place)))
    c.walk_on.ensures
