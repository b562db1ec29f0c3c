use Rattle.std.proofs.Common.{[], append-nil, arith, map, ◌++◌, ◌∷◌, ◌≡◌}
use Rattle.std.proofs.lemmas.List.{nil_from_length}
use Rattle.pv_model.specs.PlainForms.{plain_token}
use Rattle.pv_productive.specs.PlainForms.{dtd_of}
use Rattle.pv_span.specs.Weights.{weight_of}
use Rattle.pv_complete.specs.Works.{CanSpellAll, goal_work, wants_none}
use Rattle.pv_complete.proofs.Powers.{top_ready}
use Rattle.pv_complete.proofs.Spots.{spot_has, spot_span}
use Rattle.pv_complete.proofs.Stacks.{one_goal}
use Rattle.pv_complete.proofs.words.spelling.pieces_of.Goals as goal

pub take-requires : goal.take-requires
take-requires c =
    let d = dtd_of c.args.spot.now.weights.grammar.now in
    let w = map plain_token c.args.spot.now.weights.word.now in
    let t = weight_of c.args.spot.now.weights.spans.now in
    record {
      ready = top_ready d w t c.pop.new.self.items c.in-Some.work (rw c.in-Some.ensures.items at c.loop-work.invariant.ready);
      short = c.requires;
    }

pub loop-work-init : goal.loop-work-init
loop-work-init c =
    let v = c.args.spot.now in
    let d = dtd_of v.weights.grammar.now in
    let w = map plain_token v.weights.word.now in
    let t = weight_of v.weights.spans.now in
    let items : c.push.new.self.items ≡ goal_work v.site v.from v.to ∷ [] = rw c.new-stack.ensures.items at c.in_ok-push.ensures.items in
    record {
      ready = rw items ((spot_has v, spot_span v, (let a = v.weighs in let b = v.light in omega arith)), tt);
      spells = λ ps h. rw c.new-pieces.ensures.items (rw v.weighs (one_goal d w t v.site v.from v.to ps (rw items at h)));
    }

pub loop-work-preserved : goal.loop-work-preserved
loop-work-preserved c =
    let d = dtd_of c.args.spot.now.weights.grammar.now in
    let w = map plain_token c.args.spot.now.weights.word.now in
    let t = weight_of c.args.spot.now.weights.spans.now in
    let ready : CanSpellAll d w t (c.pop.new.self.items ++ c.in-Some.work ∷ []) = rw c.in-Some.ensures.items at c.loop-work.invariant.ready in
    record {
      ready = c.in_ok-take.ensures.nearer.ready ready;
      spells = λ ps h. let q = c.in_ok-take.ensures.goes ps h in let e = q.1 in rw e (c.loop-work.invariant.spells q.0 (rw c.in-Some.ensures.items q.2));
    }

pub loop-work-smaller : goal.loop-work-smaller
loop-work-smaller c =
    let d = dtd_of c.args.spot.now.weights.grammar.now in
    let w = map plain_token c.args.spot.now.weights.word.now in
    let t = weight_of c.args.spot.now.weights.spans.now in
    let ready : CanSpellAll d w t (c.pop.new.self.items ++ c.in-Some.work ∷ []) = rw c.in-Some.ensures.items at c.loop-work.invariant.ready in
    rw c.in-Some.ensures.items (c.in_ok-take.ensures.nearer.less ready)

pub returns : goal.returns
returns c =
    let none : c.loop-work.stack.items ≡ [] = let z = c.in_default.ensures.cases in nil_from_length c.loop-work.stack.items (omega arith) in
    let all = c.loop-work.invariant.spells [] (rw none wants_none) in
    rw append-nil at all
