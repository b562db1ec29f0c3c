use Rattle.std.proofs.Common.{◌≡◌, ◌∙◌, ◌+◌, ◌∷◌, [], ap, sym, drop, length-drop, eqb-true, arith}
use Rattle.std.proofs.lemmas.List.{drop_more}
use Rattle.std.specs.Vec.{vec_len}
use Rattle.pv_model.specs.declared.models.Token.TheVariants as token
use Rattle.pv_model.proofs.LongAnswer.{IsAt-start, IsAt-more, IsAt-nowhere, IsAt-no_name, answer_at_end, answer_never, no_elements}
use Rattle.pv_model.proofs.long_words.has_tokens.Goals as goal

pub loop-token-init : goal.loop-token-init
loop-token-init c = record {
  at = IsAt-start _ _ _ c.requires.places.numbers _ _ _ c.requires.empty_word c.new-reached.ensures.items;
  none = c.new-next.ensures.items;
}

pub loop-token-preserved : goal.loop-token-preserved
loop-token-preserved c =
    let tokens = c.args.word.now in
    let i = c.loop-token.token-index in
    let name = c.in-Name.name in
    let left : drop i tokens ≡ token.Name name ∷ drop (i + 1) tokens = drop_more tokens i _ c.loop-token-test.true ∙ ap (λ t. t ∷ drop (i + 1) tokens) c.in-Name.is in
    let at = rw left at c.loop-token.invariant.at in
    let step = c.in_ok-ends.ensures.from 0 _ at.reach c.requires.places.numbers (c.deref.ensures.value ∙ at.places_are) (c.of-called.ensures ∙ c.requires.places.places name.0) in
    record {
      at = rw c.swap.ensures.x_after (IsAt-more _ 0 _ c.requires.places.numbers _ _ _ _ name.0 _ at _ _ _ _ c.loop-token.invariant.none step);
      none = ap (λ v. v.items) c.swap.ensures.y_after ∙ c.clear.ensures.items;
    }

pub returns : goal.returns
returns c =
    let tokens = c.args.word.now in
    let over : drop c.loop-token.token-index tokens ≡ [] = no_elements (drop c.loop-token.token-index tokens) (omega (arith, length-drop c.loop-token.token-index tokens)) in
    answer_at_end _ _ _ _ _ (rw over at c.loop-token.invariant.at)

pub returns-in_default : goal.returns-in_default
returns-in_default c =
    let tokens = c.args.word.now in
    let i = c.loop-token.token-index in
    let left = drop_more tokens i (token.Name (record { 0 = 0 })) c.loop-token-test.true in
    answer_never _ _ (IsAt-no_name _ _ _ _ _ _ _ c.in_default.not-Name (rw left at c.loop-token.invariant.at))

pub returns-then-is_empty : goal.returns-then-is_empty
returns-then-is_empty c =
    let tokens = c.args.word.now in
    let i = c.loop-token.token-index in
    let name = c.in-Name.name in
    let left : drop i tokens ≡ token.Name name ∷ drop (i + 1) tokens = drop_more tokens i _ c.loop-token-test.true ∙ ap (λ t. t ∷ drop (i + 1) tokens) c.in-Name.is in
    let at = rw left at c.loop-token.invariant.at in
    let step = c.in_ok-ends.ensures.from 0 _ at.reach c.requires.places.numbers (c.deref.ensures.value ∙ at.places_are) (c.of-called.ensures ∙ c.requires.places.places name.0) in
    let next = c.advance.new.next in
    let zero : vec_len next ≡ 0 = eqb-true _ _ (sym c.is_empty.ensures ∙ c.if-is_empty.true) in
    let nowhere : next.items ≡ [] = no_elements next.items (omega (arith, zero, next.ok.0)) in
    answer_never _ _ (IsAt-nowhere _ 0 _ c.requires.places.numbers _ _ _ _ name.0 _ at _ _ _ _ c.loop-token.invariant.none nowhere step)
