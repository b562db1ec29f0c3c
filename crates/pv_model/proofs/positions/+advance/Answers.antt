use Rattle.std.proofs.Common.{◌≡◌, ◌+◌, ◌∷◌, ◌||◌, ◌∙◌, ap, sym, arith, drop, get_or, false}
use Rattle.std.proofs.lemmas.List.{drop_more}
use Rattle.std.proofs.lemmas.Grind.{common_steps}
use Rattle.pv_model.specs.PlainForms.{plain_part}
use Rattle.pv_model.proofs.Progress.{InOrder-more, InEach-more, Moves-rounds}
use Rattle.pv_model.proofs.positions.+advance.Goals as goal

pub advance_in_order-loop-part-preserved : goal.advance_in_order-loop-part-preserved
advance_in_order-loop-part-preserved t c =
    let one = c.advance-one in
    let member = c.part-item.result in
    let parts = c.args.parts.now in
    let i = c.loop-part.part-index in
    let left : drop i parts ≡ member ∷ drop (i + 1) parts = drop_more parts i member c.loop-part-test.true ∙ ap (λ m. m ∷ drop (i + 1) parts) (sym c.part-item.is) in
    let all = c.followed_by-all.ensures in
    InOrder-more _ _ _ _ _ (plain_part member) _ _ _ _ (rw left at c.loop-part.invariant) one.result _ _ one.auto.positions one.ensures all.next all.was_end all.is_end all.is_reached
    all.may_be_empty _ c.enters_next-entering.ensures

pub advance_each-loop-part-preserved : goal.advance_each-loop-part-preserved
advance_each-loop-part-preserved t c =
    let one = c.advance-one in
    let member = c.part-item.result in
    let parts = c.args.parts.now in
    let i = c.loop-part.part-index in
    let left : drop i parts ≡ member ∷ drop (i + 1) parts = drop_more parts i member c.loop-part-test.true ∙ ap (λ m. m ∷ drop (i + 1) parts) (sym c.part-item.is) in
    let some = c.or-some.ensures in
    InEach-more _ _ _ _ _ (plain_part member) _ _ _ (rw left at c.loop-part.invariant) one.result _ _ one.auto.positions one.ensures some.next some.was_end some.is_end some.is_reached
    some.may_be_empty

pub advance_rounds-returns : goal.advance_rounds-returns
advance_rounds-returns t c =
    let round = c.advance-round in
    let entering : c.if-entered.entering ≡ (c.args.entered || get_or (drop c.args.at c.args.positions.now) 0 false) = grind (arith, common_steps) in
    let found = c.repetition.ensures in
    Moves-rounds (plain_part c.args.inner.now) c.args.entered c.args.name.0 c.args.at c.args.positions.now round.new.positions round.result c.repetition.result c.if-entered.entering
    c.requires entering round.ensures found.next (found.was_end ∙ grind (arith, common_steps)) found.is_end found.is_reached found.may_be_empty
