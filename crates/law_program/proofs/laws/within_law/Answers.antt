use Rattle.law_program.proofs.AnswersWithinLimits.{answers_within}
use Rattle.law_program.proofs.laws.within_law.Goals as goal

pub returns : goal.returns
returns g c = answers_within _ (record {
  expansions = c.one_expansion_law.ensures.at_most;
  dtds = c.one_meaning_law.ensures;
  documents = c.one_meaning_law-2.ensures;
  packs = c.one_meaning_law-3.ensures;
  denials = c.one_meaning_law-6.ensures;
  texts = c.one_meaning_law-4.ensures.text;
  lines = c.one_reading_law.ensures;
  nests = c.one_meaning_law-5.ensures;
}) c.complete_law.ensures
