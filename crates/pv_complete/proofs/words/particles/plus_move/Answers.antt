use Rattle.std.proofs.Common.{arith, map, refl, suc, sym, ◌+◌, ◌≡◌, ◌∙◌}
use Rattle.pv_model.specs.PlainForms.{plain_token}
use Rattle.pv_dtd.proofs.ProperDtds.{proper}
use Rattle.pv_rules.specs.Sites.{part_site}
use Rattle.pv_productive.specs.PlainForms.{dtd_of}
use Rattle.pv_span.specs.Weights.{weight_of}
use Rattle.pv_complete.proofs.Ranks.{small}
use Rattle.pv_complete.proofs.SiteMoves.{moves_plus, moves_plus_one}
use Rattle.pv_complete.proofs.OptimalWeights.{part_plus_cut}
use Rattle.pv_complete.proofs.Spots.{spot_few, spot_site, spot_span, spot_weighs}
use Rattle.pv_complete.proofs.WeightsOfWords.{weights_by}
use Rattle.pv_complete.proofs.words.particles.plus_move.Goals as goal

pub overflow_add-one : goal.overflow_add-one
overflow_add-one c = let b = small (dtd_of c.args.spot.now.weights.grammar.now) c.args.number
    (spot_site c.args.spot.now (part_site c.args.number) c.requires.is) in let f =
    c.args.spot.now.weights.grammar.now.layout.dtd.few_parts in let k =
    c.args.spot.now.weights.grammar.now.layout.dtd.counted in omega arith

pub returns-then-weighs_as : goal.returns-then-weighs_as
returns-then-weighs_as c =
    rw c.requires.is (moves_plus_one (dtd_of c.args.spot.now.weights.grammar.now)
    (map plain_token c.args.spot.now.weights.word.now) (weight_of c.args.spot.now.weights.spans.now)
    (weights_by c.args.spot.now.weights) c.args.spot.now.weights.grammar.now.layout.dtd.known
    (proper c.args.spot.now.weights.grammar.now.layout.dtd).named c.args.spot.now.from
    c.args.spot.now.to (spot_span c.args.spot.now) c.args.number (spot_site c.args.spot.now
    (part_site c.args.number) c.requires.is) (spot_few c.args.spot.now (part_site c.args.number)
    c.requires.is) c.requires.plus.0 (c.args.number + 1) c.requires.plus.1 (omega arith)
    (sym (spot_weighs c.args.spot.now (part_site c.args.number) c.requires.is)
    ∙ (rw c.if-weighs_as.true at c.weighs_as.ensures).0 refl))

pub unreachable-requires : goal.unreachable-requires
unreachable-requires c = let z : c.args.number + 1 ≡ suc c.args.number = omega arith in
    part_plus_cut (dtd_of c.args.spot.now.weights.grammar.now)
    (map plain_token c.args.spot.now.weights.word.now) (weight_of c.args.spot.now.weights.spans.now)
    (weights_by c.args.spot.now.weights) c.args.spot.now.weights.grammar.now.layout.dtd.known
    (proper c.args.spot.now.weights.grammar.now.layout.dtd).named c.args.spot.now.from
    c.args.spot.now.to (spot_span c.args.spot.now) c.args.number (spot_site c.args.spot.now
    (part_site c.args.number) c.requires.is) (spot_few c.args.spot.now (part_site c.args.number)
    c.requires.is) c.requires.plus.0 c.requires.plus.1
    (λ y. let k = (rw c.if-weighs_as.false at c.weighs_as.ensures).1 (spot_weighs c.args.spot.now
    (part_site c.args.number) c.requires.is ∙ rw z y) in
    absurd cc) (λ k a b y. let e = c.if-spot.true in omega arith)

pub unreachable-requires-in_default : goal.unreachable-requires-in_default
unreachable-requires-in_default c = let z : c.args.number + 1 ≡ suc c.args.number = omega arith in
    part_plus_cut (dtd_of c.args.spot.now.weights.grammar.now)
    (map plain_token c.args.spot.now.weights.word.now) (weight_of c.args.spot.now.weights.spans.now)
    (weights_by c.args.spot.now.weights) c.args.spot.now.weights.grammar.now.layout.dtd.known
    (proper c.args.spot.now.weights.grammar.now.layout.dtd).named c.args.spot.now.from
    c.args.spot.now.to (spot_span c.args.spot.now) c.args.number (spot_site c.args.spot.now
    (part_site c.args.number) c.requires.is) (spot_few c.args.spot.now (part_site c.args.number)
    c.requires.is) c.requires.plus.0 c.requires.plus.1
    (λ y. let k = (rw c.if-weighs_as.false at c.weighs_as.ensures).1 (spot_weighs c.args.spot.now
    (part_site c.args.number) c.requires.is ∙ rw z y) in
    absurd cc) (λ k a b y. c.in_default.ensures.none k (omega arith) (omega arith)
    (rw z (spot_weighs c.args.spot.now (part_site c.args.number) c.requires.is ∙ y)))

pub returns : goal.returns
returns c = let f = c.in-Some.ensures.found in let a = f.0 in let b = f.1 in
    rw c.requires.is (moves_plus (dtd_of c.args.spot.now.weights.grammar.now)
    (map plain_token c.args.spot.now.weights.word.now)
    (weight_of c.args.spot.now.weights.spans.now) (weights_by c.args.spot.now.weights)
    c.args.spot.now.weights.grammar.now.layout.dtd.known
    (proper c.args.spot.now.weights.grammar.now.layout.dtd).named c.args.spot.now.from
    c.args.spot.now.to (spot_span c.args.spot.now) c.args.number (spot_site c.args.spot.now
    (part_site c.args.number) c.requires.is) (spot_few c.args.spot.now (part_site c.args.number)
    c.requires.is) c.requires.plus.0 (c.args.number + 1) c.in-Some.place c.requires.plus.1
    (omega arith) (omega arith) (omega arith) (sym (spot_weighs c.args.spot.now
    (part_site c.args.number) c.requires.is) ∙ f.2))
