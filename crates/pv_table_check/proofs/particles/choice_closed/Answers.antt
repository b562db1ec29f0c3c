use Rattle.std.proofs.Common.{arith, refl, ◌+◌}
use Rattle.pv_rules.specs.Sites.{part_site}
use Rattle.pv_rules.proofs.Members.{member_in, part_passed, passed_all, passed_further, passed_more, passed_none}
use Rattle.pv_table_check.specs.ClosedForms.{WeighsAsOne}
use Rattle.pv_table_check.specs.Tested.{dtd_in, word_in}
use Rattle.pv_table_check.proofs.EntriesAtSites.{choice_from, choice_to}
use Rattle.pv_table_check.proofs.particles.choice_closed.Goals as goal

pub loop-member-init : goal.loop-member-init
loop-member-init c =
    passed_none (dtd_in c.args.tested.now) c.args.number c.args.end c.requires.choice (λ r. WeighsAsOne c.args.tested.now.entries.now (part_site c.args.number) (part_site r) 0)
    (c.args.number + 1) (omega arith)

pub returns-then-not-one_holds : goal.returns-then-not-one_holds
returns-then-not-one_holds c =
    let ch = c.requires.choice in let g = dtd_in c.args.tested.now in
    let n = member_in g c.args.number c.loop-member.member ch.0 ch.1 (c.loop-member.invariant.next c.loop-member-test.true) in (
      λ t. absurd cc,
      λ h.
          let held = choice_from c.listed_or_not_law.ensures g (word_in c.args.tested.now) c.args.tested.now.entries.now c.requires.sound.over c.args.number ch.0 ch.1 h n.0 c.loop-member.member n.1 in
          let t = c.one_holds.ensures.1 held in let f = c.if-not-one_holds.true in cc,
    )

pub end_of-member-requires : goal.end_of-member-requires
end_of-member-requires c =
    let g = dtd_in c.args.tested.now in
    let p = part_passed g c.args.number c.args.end c.requires.choice _ c.loop-member.member c.loop-member.invariant c.loop-member-test.true in (g, p.0, c.requires.sound.flat, p.1)

pub loop-member-smaller : goal.loop-member-smaller
loop-member-smaller c =
    let g = dtd_in c.args.tested.now in let lt = c.loop-member-test.true in
    let z = passed_further g c.args.number c.args.end c.requires.choice _ c.loop-member.member
    c.loop-member.invariant lt c.end_of-member.result
    (c.end_of-member.ensures g c.requires.sound.flat) in omega arith

pub loop-member-preserved : goal.loop-member-preserved
loop-member-preserved c =
    let g = dtd_in c.args.tested.now in let lt = c.loop-member-test.true in
    passed_more g c.args.number c.args.end c.requires.choice _ c.loop-member.member c.loop-member.invariant lt c.end_of-member.result (c.end_of-member.ensures g c.requires.sound.flat) _ (λ r h. h)
    (c.one_holds.ensures.0 c.if-not-one_holds.false)

pub returns : goal.returns
returns c =
    let ch = c.requires.choice in let g = dtd_in c.args.tested.now in (
      λ t. choice_to c.listed_or_not_law.ensures g (word_in c.args.tested.now) c.args.tested.now.entries.now c.requires.sound.over c.args.number ch.0 ch.1
          (λ p r a. passed_all g c.args.number c.args.end ch _ c.loop-member.member c.loop-member.invariant c.loop-member-test.false r (ch.0, p, ch.1, a)),
      λ h. refl,
    )
