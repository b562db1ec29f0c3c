use Rattle.std.proofs.Common.{arith, ◌+◌}
use Rattle.pv_rules.proofs.Members.{part_passed, passed_further}
use Rattle.pv_productive.specs.PlainForms.{dtd_of}
use Rattle.pv_reach.proofs.PartRules.{choice_laid, member_laid, none_laid}
use Rattle.pv_reach.proofs.rules.parts.add_choice.Goals as goal

pub loop-member-init : goal.loop-member-init
loop-member-init c = none_laid (dtd_of c.args.grammar.now) c.args.number c.args.end c.requires c.args.rules.now.items (c.args.number + 1) (omega arith)

pub end_of-member-requires : goal.end_of-member-requires
end_of-member-requires c =
    let g = dtd_of c.args.grammar.now in
    let p = part_passed g c.args.number c.args.end c.requires _ c.loop-member.member c.loop-member.invariant.members c.loop-member-test.true in (g, p.0, c.flat.ensures, p.1)

pub loop-member-smaller : goal.loop-member-smaller
loop-member-smaller c =
    let g = dtd_of c.args.grammar.now in let lt = c.loop-member-test.true in
    let z = passed_further g c.args.number c.args.end c.requires _ c.loop-member.member
    c.loop-member.invariant.members lt c.end_of-member.result
    (c.end_of-member.ensures g c.flat.ensures) in omega arith

pub loop-member-preserved : goal.loop-member-preserved
loop-member-preserved c =
    let g = dtd_of c.args.grammar.now in
    member_laid g c.args.number c.args.end c.requires c.args.rules.now.items c.loop-member.rules.items c.loop-member.member c.loop-member.invariant c.add.new.rules.items
    c.part_column-column.result c.part_column.result c.part_column-column.ensures c.part_column.ensures c.loop-member-test.true c.end_of-member.result (c.end_of-member.ensures g c.flat.ensures)
    c.in_ok-add.ensures

pub returns : goal.returns
returns c =
    choice_laid (dtd_of c.args.grammar.now) c.args.number c.args.end c.requires c.args.rules.now.items c.loop-member.rules.items c.loop-member.member c.loop-member.invariant
    c.loop-member-test.false
