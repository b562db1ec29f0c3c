use Rattle.pv_missing.proofs.OneList.{live_agrees}
use Rattle.pv_missing.proofs.laws.words.live_word_law.Goals as goal

pub returns : goal.returns
returns c = live_agrees
