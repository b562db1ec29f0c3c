use Rattle.std.proofs.Common.{arith, map, sym, ◌+◌}
use Rattle.pv_model.specs.PlainForms.{plain_token}
use Rattle.pv_dtd.proofs.ProperDtds.{proper}
use Rattle.pv_rules.specs.Sites.{part_site}
use Rattle.pv_productive.specs.PlainForms.{dtd_of}
use Rattle.pv_span.specs.Weights.{weight_of}
use Rattle.pv_complete.proofs.Ranks.{small}
use Rattle.pv_model.specs.Plain.{seq}
use Rattle.pv_rules.proofs.FlatKinds.{choice_at, name_at, no_part, opt_at, plus_at, seq_at, star_at}
use Rattle.pv_rules.proofs.FormedParts.{parts_formed}
use Rattle.pv_complete.proofs.SiteMoves.{moves_formed, moves_name, moves_opt, moves_opt_none}
use Rattle.pv_complete.proofs.OptimalWeights.{part_stands}
use Rattle.pv_complete.proofs.Spots.{spot_few, spot_site, spot_span}
use Rattle.pv_complete.proofs.WeightsOfWords.{weights_by}
use Rattle.pv_complete.proofs.words.particles.part_move.Goals as goal

pub unreachable-requires : goal.unreachable-requires
unreachable-requires c = part_stands (dtd_of c.args.spot.now.weights.grammar.now)
    (map plain_token c.args.spot.now.weights.word.now) (weight_of c.args.spot.now.weights.spans.now)
    (weights_by c.args.spot.now.weights) c.args.spot.now.weights.grammar.now.layout.dtd.known
    (proper c.args.spot.now.weights.grammar.now.layout.dtd).named c.args.spot.now.from
    c.args.spot.now.to (spot_span c.args.spot.now) c.args.number (spot_site c.args.spot.now
    (part_site c.args.number) c.requires.is) (spot_few c.args.spot.now (part_site c.args.number)
    c.requires.is) (no_part (dtd_of c.args.spot.now.weights.grammar.now) c.args.number
    (sym c.in_default.ensures))

pub overflow_add-result : goal.overflow_add-result
overflow_add-result c = let b = small (dtd_of c.args.spot.now.weights.grammar.now) c.args.number
    (spot_site c.args.spot.now (part_site c.args.number) c.requires.is) in let f =
    c.args.spot.now.weights.grammar.now.layout.dtd.few_parts in let k =
    c.args.spot.now.weights.grammar.now.layout.dtd.counted in omega arith

pub overflow_add-result-else-spot : goal.overflow_add-result-else-spot
overflow_add-result-else-spot c = let b = small (dtd_of c.args.spot.now.weights.grammar.now)
    c.args.number (spot_site c.args.spot.now (part_site c.args.number) c.requires.is) in let f =
    c.args.spot.now.weights.grammar.now.layout.dtd.few_parts in let k =
    c.args.spot.now.weights.grammar.now.layout.dtd.counted in omega arith

pub choice_move-requires-clause-choice : goal.choice_move-requires-clause-choice
choice_move-requires-clause-choice c = let a =
    choice_at (dtd_of c.args.spot.now.weights.grammar.now) c.args.number c.in-Some.part
    (sym c.in-Some.ensures) c.in-Choice.is in (a.0, a.1, let z = a.2 in omega arith)

pub star_move-requires-clause-star : goal.star_move-requires-clause-star
star_move-requires-clause-star c = let a = star_at (dtd_of c.args.spot.now.weights.grammar.now) c.args.number c.in-Some.part (sym c.in-Some.ensures) c.in-Star.is in (a.0, a.1)

pub plus_move-requires-clause-plus : goal.plus_move-requires-clause-plus
plus_move-requires-clause-plus c = let a = plus_at (dtd_of c.args.spot.now.weights.grammar.now) c.args.number c.in-Some.part (sym c.in-Some.ensures) c.in-Plus.is in (a.0, a.1)

pub returns-in-Name : goal.returns-in-Name
returns-in-Name c = rw c.requires.is (moves_name (dtd_of c.args.spot.now.weights.grammar.now)
    (map plain_token c.args.spot.now.weights.word.now) (weight_of c.args.spot.now.weights.spans.now)
    (weights_by c.args.spot.now.weights) c.args.spot.now.weights.grammar.now.layout.dtd.known
    (proper c.args.spot.now.weights.grammar.now.layout.dtd).named c.args.spot.now.from
    c.args.spot.now.to (spot_span c.args.spot.now) c.args.number (spot_site c.args.spot.now
    (part_site c.args.number) c.requires.is) (spot_few c.args.spot.now (part_site c.args.number)
    c.requires.is) c.in-Name.id (name_at (dtd_of c.args.spot.now.weights.grammar.now) c.args.number
    c.in-Name.id.0 c.in-Some.part (sym c.in-Some.ensures) c.in-Name.is))

pub returns-in-Seq : goal.returns-in-Seq
returns-in-Seq c = let a = seq_at (dtd_of c.args.spot.now.weights.grammar.now) c.args.number c.in-Some.part (sym c.in-Some.ensures) c.in-Seq.is in
    rw c.requires.is (moves_formed (dtd_of c.args.spot.now.weights.grammar.now)
    (map plain_token c.args.spot.now.weights.word.now)
    (weight_of c.args.spot.now.weights.spans.now) (weights_by c.args.spot.now.weights)
    c.args.spot.now.weights.grammar.now.layout.dtd.known
    (proper c.args.spot.now.weights.grammar.now.layout.dtd).named c.args.spot.now.from
    c.args.spot.now.to (spot_span c.args.spot.now) c.args.number (spot_site c.args.spot.now
    (part_site c.args.number) c.requires.is) (spot_few c.args.spot.now (part_site c.args.number)
    c.requires.is) a.0 (c.args.number + 1)
    (parts_formed (dtd_of c.args.spot.now.weights.grammar.now)
    c.args.spot.now.weights.grammar.now.layout.dtd.formed c.args.number (seq a.0) a.1) a.1 (omega arith))

pub returns-then-spot : goal.returns-then-spot
returns-then-spot c = let a = opt_at (dtd_of c.args.spot.now.weights.grammar.now) c.args.number
    c.in-Some.part (sym c.in-Some.ensures) c.in-Opt.is in
    rw c.requires.is (moves_opt_none (dtd_of c.args.spot.now.weights.grammar.now)
    (map plain_token c.args.spot.now.weights.word.now) (weight_of c.args.spot.now.weights.spans.now)
    (weights_by c.args.spot.now.weights) c.args.spot.now.weights.grammar.now.layout.dtd.known
    (proper c.args.spot.now.weights.grammar.now.layout.dtd).named c.args.spot.now.from
    c.args.spot.now.to (spot_span c.args.spot.now) c.args.number (spot_site c.args.spot.now
    (part_site c.args.number) c.requires.is) (spot_few c.args.spot.now (part_site c.args.number)
    c.requires.is) a.0 a.1 c.if-spot.true)

pub returns-else-spot : goal.returns-else-spot
returns-else-spot c = let a = opt_at (dtd_of c.args.spot.now.weights.grammar.now) c.args.number
    c.in-Some.part (sym c.in-Some.ensures) c.in-Opt.is in
    rw c.requires.is (moves_opt (dtd_of c.args.spot.now.weights.grammar.now)
    (map plain_token c.args.spot.now.weights.word.now) (weight_of c.args.spot.now.weights.spans.now)
    (weights_by c.args.spot.now.weights) c.args.spot.now.weights.grammar.now.layout.dtd.known
    (proper c.args.spot.now.weights.grammar.now.layout.dtd).named c.args.spot.now.from
    c.args.spot.now.to (spot_span c.args.spot.now) c.args.number (spot_site c.args.spot.now
    (part_site c.args.number) c.requires.is) (spot_few c.args.spot.now (part_site c.args.number)
    c.requires.is) a.0 (c.args.number + 1) a.1 (omega arith)
    (let n = c.if-spot.false in let s = c.args.spot.now.span.0 in omega arith))
