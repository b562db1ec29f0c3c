use Rattle.pv_missing.proofs.Blanks.{blanks}
use Rattle.pv_missing.proofs.laws.documents.blanks_law.Goals as goal

pub returns : goal.returns
returns c = blanks
