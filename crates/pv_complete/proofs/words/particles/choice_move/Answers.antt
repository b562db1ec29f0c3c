use Rattle.std.proofs.Common.{arith, map, refl, sym, ◌+◌, ◌≢◌}
use Rattle.pv_model.specs.PlainForms.{plain_token}
use Rattle.pv_dtd.proofs.ProperDtds.{proper}
use Rattle.pv_rules.specs.Rules.{over}
use Rattle.pv_rules.specs.Sites.{part_site}
use Rattle.pv_rules.proofs.Members.{member_in, part_passed, passed_all, passed_further, passed_more, passed_none}
use Rattle.pv_productive.specs.PlainForms.{dtd_of}
use Rattle.pv_span.specs.Weights.{weight_of}
use Rattle.pv_complete.proofs.SiteMoves.{moves_member, moves_no_member}
use Rattle.pv_complete.proofs.Spots.{spot_few, spot_site, spot_span, spot_weighs}
use Rattle.pv_complete.proofs.WeightsOfWords.{weights_by}
use Rattle.pv_complete.proofs.words.particles.choice_move.Goals as goal

pub loop-member-init : goal.loop-member-init
loop-member-init c =
    passed_none (dtd_of c.args.spot.now.weights.grammar.now) c.args.number c.args.end c.requires.choice
    (λ r. c.args.spot.now.weight ≢ weight_of c.args.spot.now.weights.spans.now (over (part_site r) c.args.spot.now.from c.args.spot.now.to)) (c.args.number + 1) (omega arith)

pub returns-then-weighs_as : goal.returns-then-weighs_as
returns-then-weighs_as c =
    let ch = c.requires.choice in
    let n = member_in (dtd_of c.args.spot.now.weights.grammar.now) c.args.number c.loop-member.member ch.0 ch.1 (c.loop-member.invariant.next c.loop-member-test.true) in
    rw c.requires.is (moves_member (dtd_of c.args.spot.now.weights.grammar.now)
    (map plain_token c.args.spot.now.weights.word.now)
    (weight_of c.args.spot.now.weights.spans.now) (weights_by c.args.spot.now.weights)
    c.args.spot.now.weights.grammar.now.layout.dtd.known
    (proper c.args.spot.now.weights.grammar.now.layout.dtd).named c.args.spot.now.from
    c.args.spot.now.to (spot_span c.args.spot.now) c.args.number (spot_site c.args.spot.now
    (part_site c.args.number) c.requires.is) (spot_few c.args.spot.now (part_site c.args.number)
    c.requires.is) n.0 ch.0 c.loop-member.member c.args.spot.now.weight ch.1 n.1
    (spot_weighs c.args.spot.now (part_site c.args.number) c.requires.is)
    (sym ((rw c.if-weighs_as.true at c.weighs_as.ensures).0 refl)))

pub end_of-member-requires : goal.end_of-member-requires
end_of-member-requires c =
    let g = dtd_of c.args.spot.now.weights.grammar.now in
    let p = part_passed g c.args.number c.args.end c.requires.choice _ c.loop-member.member c.loop-member.invariant c.loop-member-test.true in (g, p.0, c.flat.ensures, p.1)

pub loop-member-smaller : goal.loop-member-smaller
loop-member-smaller c =
    let g = dtd_of c.args.spot.now.weights.grammar.now in let lt = c.loop-member-test.true in
    let z = passed_further g c.args.number c.args.end c.requires.choice _ c.loop-member.member
    c.loop-member.invariant lt c.end_of-member.result (c.end_of-member.ensures g c.flat.ensures)
    in omega arith

pub loop-member-preserved : goal.loop-member-preserved
loop-member-preserved c =
    let g = dtd_of c.args.spot.now.weights.grammar.now in let lt = c.loop-member-test.true in
    passed_more g c.args.number c.args.end c.requires.choice _ c.loop-member.member c.loop-member.invariant lt c.end_of-member.result (c.end_of-member.ensures g c.flat.ensures) _ (λ r h. h)
    (λ y. let k = (rw c.if-weighs_as.false at c.weighs_as.ensures).1 y in absurd cc)

pub unreachable-requires : goal.unreachable-requires
unreachable-requires c =
    let ch = c.requires.choice in let f = c.loop-member-test.false in
    moves_no_member (dtd_of c.args.spot.now.weights.grammar.now)
    (map plain_token c.args.spot.now.weights.word.now)
    (weight_of c.args.spot.now.weights.spans.now) (weights_by c.args.spot.now.weights)
    c.args.spot.now.weights.grammar.now.layout.dtd.known
    (proper c.args.spot.now.weights.grammar.now.layout.dtd).named c.args.spot.now.from
    c.args.spot.now.to (spot_span c.args.spot.now) c.args.number (spot_site c.args.spot.now
    (part_site c.args.number) c.requires.is) (spot_few c.args.spot.now (part_site c.args.number)
    c.requires.is) ch.0 c.args.spot.now.weight ch.1 (spot_weighs c.args.spot.now
    (part_site c.args.number) c.requires.is)
    (λ p r a. passed_all (dtd_of c.args.spot.now.weights.grammar.now) c.args.number c.args.end ch _ c.loop-member.member c.loop-member.invariant f r (ch.0, p, ch.1, a))
