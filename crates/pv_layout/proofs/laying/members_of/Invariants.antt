use Rattle.std.proofs.Common.{Some, slice_get, ℕ, ◌-◌, ◌≡◌}
use Rattle.pv_rules.specs.Numbering.{IsMemberOf}
use Rattle.pv_rules.proofs.Members.{HavePassed}
use Rattle.pv_productive.specs.PlainForms.{dtd_of}
use Rattle.pv_layout.specs.ColumnRules.{IsOneOf}
use Rattle.pv_layout.specs.Columns.{column_at}
use Rattle.pv_layout.proofs.laying.members_of.Given as goal

abbrev pub invariant-loop-member : goal.invariant-loop-member
invariant-loop-member l = record {
  each : HavePassed (dtd_of l.grammar) l.number l.end (λ r. IsOneOf (column_at l.parts r) l.members.items) l.member;
  only : (n d : ℕ) → slice_get l.members.items n ≡ Some d → (k : ℕ) × IsMemberOf (dtd_of l.grammar) l.number k × (d ≡ column_at l.parts k);
}

abbrev pub decreases-loop-member : goal.decreases-loop-member
decreases-loop-member l = l.end - l.member
