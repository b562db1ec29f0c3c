use Rattle.pv_missing.proofs.KnownNames.{word_known}
use Rattle.pv_missing.proofs.laws.lists.known_word_law.Goals as goal

pub returns : goal.returns
returns g c = word_known _
