use Rattle.std.proofs.Common.{Some, ap, arith, suc, ◌+◌, ◌≡◌}
use Rattle.pv_productive.specs.PlainForms.{dtd_of}
use Rattle.pv_reach.proofs.FormedDtds.{formed_dtd}
use Rattle.pv_reach.specs.Columns.{member_columns}
use Rattle.pv_reach.proofs.MembersLeft.{full_seq, left_all, left_less, left_more, left_none}
use Rattle.pv_reach.proofs.rules.parts.members.Goals as goal

pub loop-next-init : goal.loop-next-init
loop-next-init c = λ ps e.
    let z : c.args.number + 1 ≡ suc c.args.number = omega arith in
    rw c.new-columns.ensures.items
    (left_all (dtd_of c.args.grammar.now) c.args.number ps (Some (c.args.number + 1)) (full_seq (dtd_of c.args.grammar.now) c.args.number ps (formed_dtd c.args.grammar.now) e) e (ap (λ n. Some n) z))

pub loop-next-smaller : goal.loop-next-smaller
loop-next-smaller c =
    let s = c.requires.seq in
    left_less (dtd_of c.args.grammar.now) (member_columns (dtd_of c.args.grammar.now) (suc c.args.number) s.0) c.loop-next.columns.items c.in-Some.member c.loop-next.next c.next_member-next.result
    (c.loop-next.invariant s.0 s.1) c.in-Some.is c.next_member-next.ensures

pub loop-next-preserved : goal.loop-next-preserved
loop-next-preserved c = λ ps e.
    left_more (dtd_of c.args.grammar.now) (member_columns (dtd_of c.args.grammar.now) (suc c.args.number) ps) c.loop-next.columns.items c.push.new.self.items c.in-Some.member c.part_column.result
    c.loop-next.next c.next_member-next.result (c.loop-next.invariant ps e) c.in-Some.is c.part_column.ensures c.in_ok-push.ensures.items c.next_member-next.ensures

pub returns : goal.returns
returns c = λ ps e.
    left_none (dtd_of c.args.grammar.now) (member_columns (dtd_of c.args.grammar.now) (suc c.args.number) ps) c.loop-next.columns.items c.loop-next.next (c.loop-next.invariant ps e) c.in_default.is
