use Rattle.std.proofs.Common.{◌≡◌, ◌++◌, ◌+◌, ◌<◌, drop, length}
use Rattle.pv_model.specs.PlainForms.{numbers_of}
use Rattle.pv_rules.specs.Flat.{flat_names}
use Rattle.pv_rules.proofs.layout.push_names.Given as goal

abbrev pub invariant-loop-name : goal.invariant-loop-name
invariant-loop-name l = record {
  all : l.parts.items ++ flat_names (length l.parts.items) (numbers_of (drop l.name-index l.names)) ≡ l.fn.parts.items ++ flat_names (length l.fn.parts.items) (numbers_of l.names);
  fits : length l.parts.items + length (drop l.name-index l.names) < 4294967296;
}
