use Rattle.pv_chars.proofs.NameLemmas.{same_name}
use Rattle.pv_chars.proofs.laws.one_name_law.Goals as goal

pub returns : goal.returns
returns c = same_name
