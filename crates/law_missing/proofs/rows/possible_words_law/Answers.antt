use Rattle.law_missing.proofs.AnyRows.{live_words}
use Rattle.law_missing.proofs.WordRows.{other_words, section_words}
use Rattle.law_missing.proofs.rows.possible_words_law.Goals as goal

pub returns : goal.returns
returns c = record { sections = section_words; others = other_words; live = live_words }
