use Rattle.std.proofs.Common.{[]}
use Rattle.pv_edit.proofs.RemarkedFacts.{kept-to}
use Rattle.pv_edit.proofs.RemarkedReasons.{inverse-as}
use Rattle.pv_cache.proofs.RemarkedDocuments.{accepted_as, holdable_to}
use Rattle.pv_cache.proofs.laws.other_marks_law.Goals as goal

pub returns : goal.returns
returns g c = record {
  accepted = λ f blank dtd root doc edited edit. accepted_as f blank dtd root doc edit edited;
  holdable = λ f dtd doc. holdable_to f doc dtd [];
  kept = λ f root. kept-to f root;
  inverse = λ f root edit. inverse-as f root edit;
}
