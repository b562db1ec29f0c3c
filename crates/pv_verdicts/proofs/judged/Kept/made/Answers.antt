use Rattle.pv_dtd.specs.Plain.{declared}
use Rattle.pv_verdicts.proofs.judged.Kept.made.Goals as goal

pub returns : goal.returns
returns c = λ g x w turn. record {
  counts = turn.counts;
  model = turn.model;
  is_model = turn.is_model;
  word_match = c.make.ensures (declared g) turn.model w turn.word_match;
}
