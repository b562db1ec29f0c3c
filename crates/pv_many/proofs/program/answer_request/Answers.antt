use Rattle.pv_many.proofs.Runs.{dtd_opened, dtd_stopped}
use Rattle.pv_many.proofs.program.answer_request.Goals as goal

pub returns-in-Ok-clause-answers : goal.returns-in-Ok-clause-answers
returns-in-Ok-clause-answers g c =
    let asked = c.args.request.now in
    dtd_opened asked.question asked.dtd.now asked.root.now _ _ c.in-Ok.dtd _ _ _ _ _ _ _ c.in-Ok.ensures.over c.answer_by.ensures

pub returns-in-Err-clause-answers : goal.returns-in-Err-clause-answers
returns-in-Err-clause-answers g c =
    let asked = c.args.request.now in
    dtd_stopped asked.question asked.dtd.now asked.root.now _ _ c.in-Err.stop _ _ _ _ _ c.in-Err.ensures.over c.respond.ensures
