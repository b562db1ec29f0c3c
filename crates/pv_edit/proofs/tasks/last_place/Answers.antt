use Rattle.pv_edit.proofs.Paths.{place-is}
use Rattle.pv_edit.proofs.tasks.last_place.Goals as goal

pub returns-in-len1-up : goal.returns-in-len1-up
returns-in-len1-up c = place-is c.args.path.now c.in-len1-up.len_at_least
