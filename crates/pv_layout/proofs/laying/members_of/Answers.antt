use Rattle.std.proofs.Common.{[], arith, ◌++◌, ◌+◌, ◌∷◌}
use Rattle.pv_rules.specs.Numbering.{IsMemberOf}
use Rattle.pv_rules.proofs.Members.{member_in, part_passed, passed_all, passed_further, passed_more, passed_none}
use Rattle.pv_productive.specs.PlainForms.{dtd_of}
use Rattle.pv_layout.specs.ColumnRules.{IsOneOf}
use Rattle.pv_layout.specs.Columns.{column_at}
use Rattle.pv_layout.proofs.MemberColumns.{among_more, among_this, only_more}
use Rattle.pv_layout.proofs.laying.members_of.Goals as goal

pub loop-member-init : goal.loop-member-init
loop-member-init c = record {
  each = passed_none (dtd_of c.args.grammar.now) c.args.number c.args.end c.requires.choice _ (c.args.number + 1) (omega arith);
  only = λ n d h. let z = rw c.new-members.ensures.items at h in absurd cc;
}

pub end_of-member-requires : goal.end_of-member-requires
end_of-member-requires c =
    let g = dtd_of c.args.grammar.now in
    let p = part_passed g c.args.number c.args.end c.requires.choice _ c.loop-member.member c.loop-member.invariant.each c.loop-member-test.true in (g, p.0, c.flat.ensures, p.1)

pub loop-member-smaller : goal.loop-member-smaller
loop-member-smaller c =
    let g = dtd_of c.args.grammar.now in let lt = c.loop-member-test.true in
    let z = passed_further g c.args.number c.args.end c.requires.choice _ c.loop-member.member
    c.loop-member.invariant.each lt c.end_of-member.result
    (c.end_of-member.ensures g c.flat.ensures) in omega arith

pub loop-member-preserved : goal.loop-member-preserved
loop-member-preserved c =
    let g = dtd_of c.args.grammar.now in let column = column_at c.args.parts.now in let ds = c.loop-member.members.items in let m = c.loop-member.member in let v = c.column_at.result in
    let i = c.loop-member.invariant in let lt = c.loop-member-test.true in
    record {
      each = rw c.in_ok-push.ensures.items (passed_more g c.args.number c.args.end c.requires.choice _ m i.each lt c.end_of-member.result (c.end_of-member.ensures g c.flat.ensures)
          (λ r. IsOneOf (column r) (ds ++ (v ∷ []))) (λ r h. among_more ds v (column r) h) (among_this column ds m v c.column_at.ensures));
      only = rw c.in_ok-push.ensures.items (only_more column ds m v c.column_at.ensures (IsMemberOf g c.args.number) (i.each.next lt) i.only);
    }

pub returns : goal.returns
returns c = λ ps e.
    let g = dtd_of c.args.grammar.now in let i = c.loop-member.invariant in
    record {
      each = λ r k. passed_all g c.args.number c.args.end c.requires.choice _ c.loop-member.member i.each c.loop-member-test.false r (ps, k.0, e, k.1);
      only = λ n d h. let o = i.only n d h in (o.0, member_in g c.args.number o.0 ps e o.1, o.2);
    }
