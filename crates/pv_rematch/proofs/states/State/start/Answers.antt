use Rattle.std.proofs.Common.{◌∙◌, ◌++◌, ap, refl}
use Rattle.pv_model.specs.Positions.{unreached_positions}
use Rattle.pv_model.specs.PlainForms.{plain_part}
use Rattle.pv_rematch.proofs.ReadStates.{after_none}
use Rattle.pv_rematch.proofs.states.State.start.Goals as goal

pub returns : goal.returns
returns c =
    after_none (plain_part c.args.part.now) _ refl c.may_be_empty.ensures
    (c.in_ok-push_positions.ensures
    ∙ ap (λ l. l ++ unreached_positions (plain_part c.args.part.now))
    c.in_ok-positions.ensures.items)
