use Rattle.std.proofs.Common.{arith, refl, sym, true≢false, ◌+◌, ◌∙◌}
use Rattle.pv_rules.specs.Sites.{part_site}
use Rattle.pv_rules.proofs.Members.{member_in, part_passed, passed_all, passed_further, passed_more, passed_none}
use Rattle.pv_productive.specs.PlainForms.{dtd_of}
use Rattle.pv_denial.specs.RowForms.{HoldsOneSide}
use Rattle.pv_denial.proofs.rules.choice_holds.Goals as goal

pub loop-member-init : goal.loop-member-init
loop-member-init c =
    passed_none (dtd_of c.args.grammar.now) c.args.number c.args.end c.requires.choice (λ r. HoldsOneSide c.args.barrier.now (part_site c.args.number) (part_site r) c.args.tokens)
    (c.args.number + 1) (omega arith)

pub end_of-member-requires : goal.end_of-member-requires
end_of-member-requires c =
    let g = dtd_of c.args.grammar.now in
    let p = part_passed g c.args.number c.args.end c.requires.choice _ c.loop-member.member c.loop-member.invariant c.loop-member-test.true in (g, p.0, c.flat.ensures, p.1)

pub loop-member-smaller : goal.loop-member-smaller
loop-member-smaller c =
    let g = dtd_of c.args.grammar.now in let lt = c.loop-member-test.true in
    let z = passed_further g c.args.number c.args.end c.requires.choice _ c.loop-member.member
    c.loop-member.invariant lt c.end_of-member.result (c.end_of-member.ensures g c.flat.ensures)
    in omega arith

pub loop-member-preserved : goal.loop-member-preserved
loop-member-preserved c =
    let g = dtd_of c.args.grammar.now in let lt = c.loop-member-test.true in
    passed_more g c.args.number c.args.end c.requires.choice _ c.loop-member.member c.loop-member.invariant lt c.end_of-member.result (c.end_of-member.ensures g c.flat.ensures) _ (λ r h. h)
    (c.one_holds.ensures.0 c.if-not-one_holds.false)

pub returns-then-not-one_holds : goal.returns-then-not-one_holds
returns-then-not-one_holds c = λ ps e.
    let n = member_in (dtd_of c.args.grammar.now) c.args.number c.loop-member.member ps e (c.loop-member.invariant.next c.loop-member-test.true) in
    ((λ t. absurd (true≢false (sym t))), (λ all. sym c.if-not-one_holds.true ∙ c.one_holds.ensures.1 (all n.0 c.loop-member.member n.1)))

pub returns : goal.returns
returns c = λ ps e. (
  (λ t p r a. passed_all (dtd_of c.args.grammar.now) c.args.number c.args.end c.requires.choice _ c.loop-member.member c.loop-member.invariant c.loop-member-test.false r (ps, p, e, a)),
  (λ h. refl),
)
