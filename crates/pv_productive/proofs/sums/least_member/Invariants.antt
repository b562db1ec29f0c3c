use Rattle.std.proofs.Common.{ℕ, ◌-◌, ◌<◌, ◌≡◌, ◌≤◌}
use Rattle.pv_dtd.specs.PlainForms.{plain_dtd}
use Rattle.pv_rules.specs.Numbering.{IsMemberOf}
use Rattle.pv_rules.proofs.Members.{HavePassed}
use Rattle.pv_productive.specs.PlainForms.{table_of}
use Rattle.pv_productive.specs.Tables.{no_size, size_at}
use Rattle.pv_productive.proofs.sums.least_member.Given as goal

abbrev pub invariant-loop-member : goal.invariant-loop-member
invariant-loop-member l = record {
  passed : HavePassed (plain_dtd l.layout.dtd) l.number l.end (λ r. l.least ≤ size_at (table_of l.sizes).parts r) l.member;
  bounded : l.least ≤ no_size;
  attained : l.least < no_size → (r : ℕ) × IsMemberOf (plain_dtd l.layout.dtd) l.number r × (l.least ≡ size_at (table_of l.sizes).parts r);
}

abbrev pub decreases-loop-member : goal.decreases-loop-member
decreases-loop-member l = l.end - l.member
