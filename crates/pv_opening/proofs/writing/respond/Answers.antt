use Rattle.pv_opening.proofs.writing.respond.Goals as goal

pub returns-in-Ok : goal.returns-in-Ok
returns-in-Ok g c = rw c.in-Ok.is c.write.ensures

pub returns-in-Err-Refused : goal.returns-in-Err-Refused
returns-in-Err-Refused g c = rw (c.in-Err-Refused.is, c.in-Err-Refused.field-0-is) c.write-in-Err-Refused.ensures
