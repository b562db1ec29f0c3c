use Rattle.pv_many.proofs.Inputs.{no_room}
use Rattle.pv_many.proofs.program.answer_by.Goals as goal

pub returns-in_default : goal.returns-in_default
returns-in_default g c = no_room _ _ _ _ _ _

pub returns-in_default-of : goal.returns-in_default-of
returns-in_default-of g c = no_room _ _ _ _ _ _
