use Rattle.std.proofs.Common.{◌⊎◌, inl, inr}
use Rattle.pv_read.proofs.TextRuns.{text_begins, no_text_begins}
use Rattle.pv_read.proofs.texts.text_at.Goals as goal

other : {A B : Type 0} → (A → ⊥) → A ⊎ B → B
other none (inl a) = absurd (none a)
other none (inr b) = b

pub returns-in_default-clause-text : goal.returns-in_default-clause-text
returns-in_default-clause-text c =
    no_text_begins c.args.bytes.now c.run_at.result.0.now c.run_at.result.1.now c.in-Err.error c.run_at.ensures.whole c.run_at.ensures.free c.run_at.ensures.ends
    (other c.in_default.not-NoMemory c.in-Err.ensures)

pub returns-in-Ok-clause-text : goal.returns-in-Ok-clause-text
returns-in-Ok-clause-text c = text_begins c.args.bytes.now c.run_at.result.0.now c.run_at.result.1.now c.in-Ok.units c.run_at.ensures.whole c.run_at.ensures.ends c.in-Ok.ensures
