use Rattle.std.proofs.Common.{arith, map}
use Rattle.std.proofs.lemmas.List.{length-map}
use Rattle.std.proofs.lemmas.Result.{IfOk-weaker}
use Rattle.pv_model.specs.PlainForms.{plain_token}
use Rattle.pv_productive.specs.PlainForms.{dtd_of}
use Rattle.pv_span.specs.Weights.{weight_of}
use Rattle.pv_write.specs.PieceForms.{plain_pieces}
use Rattle.pv_write.specs.declared.pieces.Piece.TheVariants as piece
use Rattle.pv_complete.proofs.Powers.{nearer_end}
use Rattle.pv_complete.proofs.Stacks.{goes_end, pushed}
use Rattle.pv_complete.proofs.WeightsOfWords.{long_word}
use Rattle.pv_rules.specs.PlainForms.{plain_site}
use Rattle.pv_complete.proofs.words.spelling.take.Goals as goal

pub returns-in_ok-push-in-End-clause-goes : goal.returns-in_ok-push-in-End-clause-goes
returns-in_ok-push-in-End-clause-goes c = rw c.in-End.is
    (goes_end (dtd_of c.args.weights.now.grammar.now) (map plain_token c.args.weights.now.word.now)
    (weight_of c.args.weights.now.spans.now) c.args.stack.now.items c.in-End.id
    (plain_pieces c.args.pieces.now.items) (plain_pieces c.push.new.self.items)
    (pushed c.args.pieces.now.items c.push.new.self.items (piece.End c.in-End.id) c.in_ok-push-in-End.ensures.items))

pub returns-in_ok-push-in-End-clause-nearer : goal.returns-in_ok-push-in-End-clause-nearer
returns-in_ok-push-in-End-clause-nearer c = nearer_end (dtd_of c.args.weights.now.grammar.now)
    (map plain_token c.args.weights.now.word.now) (weight_of c.args.weights.now.spans.now)
    c.args.stack.now.items c.args.work

pub invariant_of-spot-clause-has : goal.invariant_of-spot-clause-has
invariant_of-spot-clause-has c = let r = rw c.in-Goal.is at c.requires.ready in ∣ r.0 ∣₁

pub invariant_of-spot-clause-span : goal.invariant_of-spot-clause-span
invariant_of-spot-clause-span c =
    let r = rw c.in-Goal.is at c.requires.ready in
    let l = long_word c.args.weights.now (plain_site c.in-Goal.site) r.0 in let q = r.1 in (q.0, let m = q.1 in omega arith)

pub invariant_of-spot-clause-light : goal.invariant_of-spot-clause-light
invariant_of-spot-clause-light c = let r = rw c.in-Goal.is at c.requires.ready in let e = c.at.ensures in let f = r.2 in omega arith

pub go-requires : goal.go-requires
go-requires c = let r = rw c.in-Goal.is at c.requires.ready in let q = r.1 in let l = q.1 in let k = q.0 in let m = simp length-map at l in let s = c.requires.short in omega arith

pub returns-in-Goal-clause-goes : goal.returns-in-Goal-clause-goes
returns-in-Goal-clause-goes c = rw c.in-Goal.is
    (IfOk-weaker c.go.result _ _ (λ _ f. f (dtd_of c.args.weights.now.grammar.now)
    (map plain_token c.args.weights.now.word.now) (weight_of c.args.weights.now.spans.now)
    c.move_of-step.ensures) c.go.ensures.goes)

pub returns-in-Goal-clause-nearer : goal.returns-in-Goal-clause-nearer
returns-in-Goal-clause-nearer c = rw c.in-Goal.is
    (IfOk-weaker c.go.result _ _ (λ _ f. f (dtd_of c.args.weights.now.grammar.now)
    (map plain_token c.args.weights.now.word.now) (weight_of c.args.weights.now.spans.now)
    c.move_of-step.ensures) c.go.ensures.nearer)
