use Rattle.pv_cache.proofs.Docs.{marks-tell}
use Rattle.pv_cache.proofs.laws.marks_tell_law.Goals as goal

pub returns : goal.returns
returns c = marks-tell
