use Rattle.law_drill_tree.proofs.Verdicts.{all_judged, all_possible, br_impossible, doc_possible}
use Rattle.law_drill_tree.proofs.laws.verdicts_law.Goals as goal

pub returns : goal.returns
returns c = record {
  verdicts = λ ss some. record { are_verdicts = all_judged ss some; open_lists = all_possible ss; possible = doc_possible ss some };
  impossible = λ front back k. br_impossible front k back;
}
