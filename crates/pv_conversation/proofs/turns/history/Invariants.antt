use Rattle.std.proofs.Common.{◌≡◌, take}
use Rattle.pv_conversation.proofs.turns.history.Given as goal

abbrev pub invariant-loop-edit : goal.invariant-loop-edit
invariant-loop-edit l = l.edits.items ≡ take l.edit-index l.past
