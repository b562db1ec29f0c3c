use Rattle.pv_missing.proofs.OneLiveWord.{one_live_word}
use Rattle.pv_missing.proofs.laws.words.one_live_word_law.Goals as goal

pub returns : goal.returns
returns c = one_live_word
