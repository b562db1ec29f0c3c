use Rattle.pv_bounds.proofs.ChangedLevels.{push_keeps}
use Rattle.pv_bounds.proofs.windows.level_for.Goals as goal

pub returns-clause-kept : goal.returns-clause-kept
returns-clause-kept c = rw c.in_ok-push.ensures.items (push_keeps c.args.levels.now.items _)
