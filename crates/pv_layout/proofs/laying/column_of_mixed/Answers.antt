use Rattle.pv_layout.specs.Forms.{of_one}
use Rattle.pv_layout.proofs.laying.column_of_mixed.Goals as goal

pub returns-clause-made : goal.returns-clause-made
returns-clause-made c = (
  c.in_ok-member.member,
  c.in_ok-column.ensures.made,
  rw c.column-2.ensures.names (c.in_ok-column.ensures.kept c.in_ok-member.member (of_one c.args.members.items) c.in_ok-member.ensures.made),
)

pub returns-clause-kept : goal.returns-clause-kept
returns-clause-kept c = λ x f h.
    let k = c.in_ok-column.ensures.kept x f in
    let l = rw c.column.ensures.names at k in l (c.in_ok-member.ensures.kept x f h)
