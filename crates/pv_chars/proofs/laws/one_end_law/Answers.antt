use Rattle.pv_chars.proofs.DelimiterPlaces.{same_end}
use Rattle.pv_chars.proofs.laws.one_end_law.Goals as goal

pub returns : goal.returns
returns c = same_end
