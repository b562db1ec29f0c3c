use Rattle.std.proofs.Common.{◌≡◌, ◌++◌, ◌+◌, ◌<◌, drop, length}
use Rattle.pv_model.specs.PlainForms.{plain_parts}
use Rattle.pv_dtd.specs.Plain.{parts_in_all}
use Rattle.pv_rules.specs.Flat.{flat_members}
use Rattle.pv_rules.proofs.layout.+push_part.Given as goal

abbrev pub invariant-push_members-loop-i : goal.invariant-push_members-loop-i
invariant-push_members-loop-i l = record {
  all : l.parts.items ++ flat_members (length l.parts.items) l.in_sequence
      (plain_parts (drop l.i l.members)) ≡ l.fn.parts.items
      ++ flat_members (length l.fn.parts.items) l.in_sequence (plain_parts l.members);
  fits : length l.parts.items + parts_in_all (plain_parts (drop l.i l.members)) < 4294967296;
}
