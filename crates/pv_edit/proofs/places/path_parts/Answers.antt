use Rattle.pv_edit.proofs.Paths.{parent-is, place-is}
use Rattle.pv_edit.proofs.places.path_parts.Goals as goal

pub returns-in-len1-up-clause-parent : goal.returns-in-len1-up-clause-parent
returns-in-len1-up-clause-parent c = parent-is c.args.path.now c.in-len1-up.len_at_least

pub returns-in-len1-up-clause-place : goal.returns-in-len1-up-clause-place
returns-in-len1-up-clause-place c = place-is c.args.path.now c.in-len1-up.len_at_least
