use Rattle.std.proofs.Common.{◌≡◌, drop}
use Rattle.pv_model.specs.Plain.{seq, choice}
use Rattle.pv_model.specs.Positions.{may_be_empty, all_may_be_empty, some_may_be_empty}
use Rattle.pv_model.specs.PlainForms.{plain_parts}
use Rattle.pv_model.proofs.positions.+may_be_empty.Given as goal

abbrev pub invariant-all_may_be_empty-loop-part : goal.invariant-all_may_be_empty-loop-part
invariant-all_may_be_empty-loop-part l = all_may_be_empty l.all (plain_parts (drop l.part-index l.parts)) ≡ may_be_empty (seq (plain_parts l.parts))

abbrev pub invariant-some_may_be_empty-loop-part : goal.invariant-some_may_be_empty-loop-part
invariant-some_may_be_empty-loop-part l = some_may_be_empty l.some (plain_parts (drop l.part-index l.parts)) ≡ may_be_empty (choice (plain_parts l.parts))
