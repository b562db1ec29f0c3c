use Rattle.std.proofs.Common.{◌∙◌, sym}
use Rattle.pv_rematch.proofs.ReadStates.{same_flags}
use Rattle.pv_rematch.proofs.states.State.is_same.Goals as goal

pub returns-then-self-other-2-clause-positions : goal.returns-then-self-other-2-clause-positions
returns-then-self-other-2-clause-positions c = λ h.
    sym c.as_slice.ensures.value
    ∙ same_flags c.as_slice.result.now c.as_slice-then-self-other-2.result.now (sym c.eq.ensures
    ∙ h) ∙ c.as_slice-then-self-other-2.ensures.value
