use Rattle.std.proofs.Common.{[], refl, sym, subst}
use Rattle.pv_model.specs.PlainForms.{plain_part}
use Rattle.pv_rematch.specs.States.{IsAfter}
use Rattle.pv_rematch.specs.declared.states.State.{State}
use Rattle.pv_rematch.proofs.TurnedPoints.{walked_whole}
use Rattle.pv_rematch.proofs.KeptWalks.{read_none}
use Rattle.pv_rematch.proofs.stretches.Points.of.Goals as goal

pub returns : goal.returns
returns c =
    let p = plain_part c.args.part.now in
    let w = c.at-walker in
    let Q : State → Type 0 = λ s. IsAfter p [] s in
    let start =
    read_none p [] w.result w.ensures.since w.ensures.points
    (subst Q (sym w.ensures.state) c.in_ok-start.ensures) in
    walked_whole p _ c.in_ok-walked.walked _
    (c.in_ok-walked.ensures.walked [] [] [] start tt) refl refl
