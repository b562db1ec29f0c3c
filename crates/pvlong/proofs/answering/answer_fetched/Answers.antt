use Rattle.pvlong.proofs.answering.answer_fetched.Goals as goal

pub returns-in-Check : goal.returns-in-Check
returns-in-Check g c =
    rw (c.in-Check.is, c.told_of.ensures.least, c.told_of.ensures.response) c.check.ensures
