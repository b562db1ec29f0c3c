use Rattle.std.proofs.Common.{true, ◌<◌, ◌≡◌, ◌≤◌}
use Rattle.pv_columns.specs.Frees.{AreFree}
use Rattle.pv_columns.specs.Marks.{unmarked}
use Rattle.pv_columns.proofs.leading.lead.Given as goal

abbrev pub invariant-loop-rule : goal.invariant-loop-rule
invariant-loop-rule l = record {
  frees : AreFree l.rules l.live l.frees.items;
  fewer : l.changed ≡ true → unmarked l.frees.items < unmarked l.initial.frees.items;
  most : unmarked l.frees.items ≤ unmarked l.initial.frees.items;
}
