use Rattle.std.proofs.Common.{◌≡◌, ◌+◌, ◌∷◌, [], ◌∙◌, true, false, ap, sym, map, drop, length-drop, arith}
use Rattle.std.proofs.lemmas.Bool.{not-false}
use Rattle.std.proofs.lemmas.List.{drop_more}
use Rattle.pv_model.specs.declared.models.Token.TheVariants as token
use Rattle.pv_model.specs.Positions.{positions_after, any_reached}
use Rattle.pv_model.specs.PlainForms.{plain_part, plain_token}
use Rattle.pv_model.proofs.LongAnswer.{no_elements}
use Rattle.pv_model.proofs.WordWalks.{IsReading-none, IsReading-more, answer_at_end, answer_nowhere, answer_no_name, not_so}
use Rattle.pv_model.proofs.children.walk.Goals as goal

pub loop-token-init : goal.loop-token-init
loop-token-init c = IsReading-none (plain_part c.args.part.now) _ _ _ c.may_be_empty-is_end.ensures c.requires

pub loop-token-preserved : goal.loop-token-preserved
loop-token-preserved c =
    let tokens = c.args.word.now in
    let i = c.loop-token.token-index in
    let p = plain_part c.args.part.now in
    let moved = c.advance-moved in
    let old = c.loop-token.positions in
    let name = c.in-Name.name in
    let left : drop i tokens ≡ token.Name name ∷ drop (i + 1) tokens = drop_more tokens i _ c.loop-token-test.true ∙ ap (λ t. t ∷ drop (i + 1) tokens) c.in-Name.is in
    let some : any_reached (positions_after p c.loop-token.entered name.0 old) ≡ true = sym moved.ensures.is_reached ∙ not-false moved.result.is_reached c.if-not-moved.false in
    IsReading-more p (map plain_token tokens) c.loop-token.entered c.loop-token.is_end old name.0 (map plain_token (drop (i + 1) tokens)) (rw left at c.loop-token.invariant) some
    moved.result.is_end moved.new.positions moved.ensures.is_end moved.ensures.positions

pub returns : goal.returns
returns c =
    let tokens = c.args.word.now in
    let over : drop c.loop-token.token-index tokens ≡ [] = no_elements (drop c.loop-token.token-index tokens) (omega (arith, length-drop c.loop-token.token-index tokens)) in
    answer_at_end _ _ _ _ _ (rw over at c.loop-token.invariant)

pub returns-in_default : goal.returns-in_default
returns-in_default c =
    let left = drop_more c.args.word.now c.loop-token.token-index (token.Name (record { 0 = 0 })) c.loop-token-test.true in
    answer_no_name _ _ _ _ _ _ _ c.in_default.not-Name (rw left at c.loop-token.invariant)

pub returns-then-not-moved : goal.returns-then-not-moved
returns-then-not-moved c =
    let tokens = c.args.word.now in
    let i = c.loop-token.token-index in
    let p = plain_part c.args.part.now in
    let moved = c.advance-moved in
    let name = c.in-Name.name in
    let left : drop i tokens ≡ token.Name name ∷ drop (i + 1) tokens = drop_more tokens i _ c.loop-token-test.true ∙ ap (λ t. t ∷ drop (i + 1) tokens) c.in-Name.is in
    let none : any_reached (positions_after p c.loop-token.entered name.0 c.loop-token.positions) ≡ false = sym moved.ensures.is_reached ∙ not_so moved.result.is_reached c.if-not-moved.true in
    answer_nowhere _ _ _ _ _ name.0 _ (rw left at c.loop-token.invariant) none
