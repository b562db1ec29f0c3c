use Rattle.law_missing.proofs.DeepRows.{valid_at_any_depth_law}
use Rattle.law_missing.proofs.rows.valid_at_any_depth_law.Goals as goal

pub returns : goal.returns
returns c = valid_at_any_depth_law
