use Rattle.std.proofs.Common.{arith, ap, inr, map, refl, subst, sym, ℕ, ◌∙◌}
use Rattle.pv_model.specs.PlainForms.{plain_token}
use Rattle.pv_dtd.proofs.ProperDtds.{proper}
use Rattle.pv_dtd.specs.Plain.{declared}
use Rattle.pv_rules.specs.Sites.{content_site, name_site}
use Rattle.pv_productive.specs.PlainForms.{dtd_of}
use Rattle.pv_span.specs.Weights.{weight_of}
use Rattle.pv_complete.specs.Moves.{IsItem, IsNoItem}
use Rattle.pv_complete.proofs.SiteMoves.{moves_any_none, moves_declared, moves_text}
use Rattle.pv_complete.proofs.OptimalWeights.{content_any}
use Rattle.pv_complete.proofs.Spots.{spot_few, spot_site, spot_span, spot_weighs}
use Rattle.pv_complete.proofs.WeightsOfWords.{weights_by}
use Rattle.pv_complete.proofs.words.contents.any_move.Goals as goal

pub returns-then-spot : goal.returns-then-spot
returns-then-spot c = rw c.requires.is (moves_any_none (dtd_of c.args.spot.now.weights.grammar.now)
    (map plain_token c.args.spot.now.weights.word.now) (weight_of c.args.spot.now.weights.spans.now)
    (weights_by c.args.spot.now.weights) c.args.spot.now.weights.grammar.now.layout.dtd.known
    (proper c.args.spot.now.weights.grammar.now.layout.dtd).named c.args.spot.now.from
    c.args.spot.now.to (spot_span c.args.spot.now) c.args.id.0 (spot_site c.args.spot.now
    (content_site c.args.id.0) c.requires.is) (spot_few c.args.spot.now (content_site c.args.id.0)
    c.requires.is) c.requires.any c.if-spot.true)

pub returns-then-is_text_move : goal.returns-then-is_text_move
returns-then-is_text_move c = let k = (rw c.if-is_text_move.true at c.is_text_move.ensures).0 refl
    in rw c.requires.is (moves_text (dtd_of c.args.spot.now.weights.grammar.now)
    (map plain_token c.args.spot.now.weights.word.now) (weight_of c.args.spot.now.weights.spans.now)
    (weights_by c.args.spot.now.weights) c.args.spot.now.weights.grammar.now.layout.dtd.known
    (proper c.args.spot.now.weights.grammar.now.layout.dtd).named c.args.spot.now.from
    c.args.spot.now.to (spot_span c.args.spot.now) c.args.id.0 (spot_site c.args.spot.now
    (content_site c.args.id.0) c.requires.is) (spot_few c.args.spot.now (content_site c.args.id.0)
    c.requires.is) (inr c.requires.any)
    (let n = c.if-spot.false in let s = c.args.spot.now.span.0 in omega arith) k.0
    (sym (spot_weighs c.args.spot.now (content_site c.args.id.0) c.requires.is) ∙ rw c.requires.is at k.1))

pub returns : goal.returns
returns c = rw c.requires.is (moves_declared (dtd_of c.args.spot.now.weights.grammar.now)
    (map plain_token c.args.spot.now.weights.word.now) (weight_of c.args.spot.now.weights.spans.now)
    (weights_by c.args.spot.now.weights) c.args.spot.now.weights.grammar.now.layout.dtd.known
    (proper c.args.spot.now.weights.grammar.now.layout.dtd).named c.args.spot.now.from
    c.args.spot.now.to (spot_span c.args.spot.now) c.args.id.0 (spot_site c.args.spot.now
    (content_site c.args.id.0) c.requires.is) (spot_few c.args.spot.now (content_site c.args.id.0)
    c.requires.is) c.args.spot.now.weight c.in-Some.found c.requires.any
    (spot_weighs c.args.spot.now (content_site c.args.id.0) c.requires.is)
    (subst (λ (z : ℕ). IsItem (weight_of c.args.spot.now.weights.spans.now) name_site 0 z
    c.args.id.0 c.args.spot.now.from c.args.spot.now.to c.args.spot.now.weight c.in-Some.found)
    (c.count-count.ensures ∙ ap declared c.dtd.ensures) c.in-Some.ensures.found))

pub unreachable-requires : goal.unreachable-requires
unreachable-requires c = content_any (dtd_of c.args.spot.now.weights.grammar.now)
    (map plain_token c.args.spot.now.weights.word.now) (weight_of c.args.spot.now.weights.spans.now)
    (weights_by c.args.spot.now.weights) c.args.spot.now.weights.grammar.now.layout.dtd.known
    (proper c.args.spot.now.weights.grammar.now.layout.dtd).named c.args.spot.now.from
    c.args.spot.now.to (spot_span c.args.spot.now) c.args.id.0 (spot_site c.args.spot.now
    (content_site c.args.id.0) c.requires.is) (spot_few c.args.spot.now (content_site c.args.id.0)
    c.requires.is) c.requires.any
    (let n = c.if-spot.false in let s = c.args.spot.now.span.0 in omega arith)
    (λ z. let y = (rw c.if-is_text_move.false at c.is_text_move.ensures).1 (
      z.0,
      rw c.requires.is ((spot_weighs c.args.spot.now (content_site c.args.id.0) c.requires.is)
          ∙ z.1),
    ) in absurd cc)
    (rw (spot_weighs c.args.spot.now (content_site c.args.id.0) c.requires.is) at
    (subst (λ (z : ℕ). IsNoItem (weight_of c.args.spot.now.weights.spans.now) name_site 0 z
    c.args.id.0 c.args.spot.now.from c.args.spot.now.to c.args.spot.now.weight)
    (c.count-count.ensures ∙ ap declared c.dtd.ensures) c.in_default.ensures.none))
