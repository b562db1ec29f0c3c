-- The answers of the program as plain answers. Want of memory is none.
use Rattle.std.specs.Prelude.{Err, None, Ok, Option, Result, Some}
use Rattle.pv_edit.specs.declared.answers.Done.{Done}
use Rattle.pv_edit.specs.declared.answers.EditAnswer.{EditAnswer}
use Rattle.pv_session.specs.Steps.{PlainAnswer, is_done, lacks_history, refusal_of}
use Rattle.pv_session.specs.declared.answers.BackAnswer.{BackAnswer}
use Rattle.pv_session.specs.declared.answers.BackAnswer.TheVariants as back

-- what is answered to an edit
abbrev pub edit_answer : Result Done EditAnswer → Option PlainAnswer
edit_answer (Ok done) = Some (is_done done.checked done.left done.bad)
edit_answer (Err refusal) = refusal_of refusal

-- what is answered to an undo and a redo
abbrev pub back_answer : Result Done BackAnswer → Option PlainAnswer
back_answer (Ok done) = Some (is_done done.checked done.left done.bad)
back_answer (Err back.NoHistory) = Some lacks_history
back_answer (Err back.NoMemory) = None
