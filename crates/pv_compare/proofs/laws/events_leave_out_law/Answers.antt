use Rattle.pv_compare.proofs.EventsLeave.{events_leave_out}
use Rattle.pv_compare.proofs.laws.events_leave_out_law.Goals as goal

pub returns : goal.returns
returns c = events_leave_out c.one_meaning_law.ensures.units
