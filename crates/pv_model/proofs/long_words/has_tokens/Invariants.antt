use Rattle.std.proofs.Common.{◌≡◌, [], map, drop}
use Rattle.pv_model.specs.PlainForms.{plain_layout, plain_token}
use Rattle.pv_model.proofs.LongAnswer.{IsAt}
use Rattle.pv_model.proofs.long_words.has_tokens.Given as goal

abbrev pub invariant-loop-token : goal.invariant-loop-token
invariant-loop-token l = record {
  at : IsAt (plain_layout l.layout) (map plain_token l.word) l.entered l.is_end l.reached.items (map plain_token (drop l.token-index l.word));
  none : l.next.items ≡ [];
}
