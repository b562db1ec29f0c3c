use Rattle.pv_bounds.proofs.cuts.form_cuts_hold.Goals as goal

pub returns-in-Star : goal.returns-in-Star
returns-in-Star c = rw c.in-Star.is c.cuts_hold.ensures

pub returns-in-Plus : goal.returns-in-Plus
returns-in-Plus c = rw c.in-Plus.is c.cuts_hold-in-Plus.ensures

pub returns-in-Then : goal.returns-in-Then
returns-in-Then c = rw c.in-Then.is c.cuts_hold-in-Then.ensures
