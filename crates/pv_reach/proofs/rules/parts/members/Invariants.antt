use Rattle.std.proofs.Common.{Some, suc, ◌≡◌}
use Rattle.pv_model.specs.Plain.{PlainParts, seq}
use Rattle.pv_rules.specs.Numbering.{part_at}
use Rattle.pv_productive.specs.PlainForms.{dtd_of}
use Rattle.pv_reach.specs.Columns.{member_columns}
use Rattle.pv_reach.proofs.MembersLeft.{IsLeft, parts_from}
use Rattle.pv_reach.proofs.rules.parts.members.Given as goal

abbrev pub invariant-loop-next : goal.invariant-loop-next
invariant-loop-next l = (ps : PlainParts) → part_at (dtd_of l.grammar) l.number ≡ Some (seq ps) →
    IsLeft (dtd_of l.grammar) (member_columns (dtd_of l.grammar) (suc l.number) ps) l.columns.items l.next

abbrev pub decreases-loop-next : goal.decreases-loop-next
decreases-loop-next l = parts_from (dtd_of l.grammar) l.next
