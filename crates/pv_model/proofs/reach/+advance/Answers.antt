use Rattle.std.proofs.Common.{◌≡◌, ◌∙◌, ◌&&◌, ◌||◌, ◌==◌, not, ap, rules, IsTrue, []}
use Rattle.std.proofs.lemmas.Result.{IfOk-weaker}
use Rattle.pv_model.proofs.LayoutSteps.{none_where, AdvancesFrom-passed, AdvancesFrom-one}
use Rattle.pv_model.proofs.LayoutSteps.{AdvancesFrom-in_order, AdvancesFrom-either}
use Rattle.pv_model.proofs.LayoutSteps.{AdvancesFrom-optional, AdvancesFrom-repeated, ok_by}
use Rattle.pv_model.proofs.reach.+advance.Goals as goal
use Rattle.pv_model.proofs.reach.+advance.Goals.{then-not-entered, else-not-entered}

pub returns-then-is_empty-2 : goal.returns-then-is_empty-2
returns-then-is_empty-2 t c =
    let uncalled : IsTrue c.args.entered → c.args.called.now ≡ [] = λ e. elim c.if-not-entered.branch [
      | then-not-entered w ↦ let never = w.if-not-entered.true in absurd (cc e)
      | else-not-entered w ↦ none_where c.args.called.now c.if-not-entered.value (w.value-is ∙ w.is_empty-else-not-entered.ensures) c.if-is_empty-2.true
    ] in
    AdvancesFrom-passed _ _ _ _ _ _ _ _ (none_where c.args.reached.now c.is_empty.result c.is_empty.ensures c.if-is_empty.true) uncalled c.none.ensures.was_end c.none.ensures.is_end

pub returns-after-entered : goal.returns-after-entered
returns-after-entered t c =
    let is : c.if-entered.is_end ≡ (c.args.entered && c.in-Name.own == c.args.name) = search rules in
    let end = c.end_at.ensures in
    rw c.in-Name.is (
    ok_by _ _ _ _ end.ends end.next (λ e ends next. AdvancesFrom-one _ _ _ _ _ _ _ _ _ _ _
    (ends.0 ∙ ap not c.is_empty-in-Name.ensures) ends.1 is next)
    )

pub returns-in_ok-back-in-InOrder : goal.returns-in_ok-back-in-InOrder
returns-in_ok-back-in-InOrder t c =
    rw c.in-InOrder.is (
    AdvancesFrom-in_order _ _ _ _ _ _ _ _ _ _ _ _ _ _ _ _ _ _ _ _ c.split.ensures c.split-in-InOrder.ensures
    (rw c.deref.ensures at c.in_ok-front-in-InOrder.ensures) _ _ _ c.enters_next-enters.ensures (rw c.deref-in-InOrder.ensures at c.in_ok-back-in-InOrder.ensures)
    c.followed_by.ensures.was_end c.followed_by.ensures.is_end
    )

pub returns-in_ok-back-in-Either : goal.returns-in_ok-back-in-Either
returns-in_ok-back-in-Either t c =
    rw c.in-Either.is (
    AdvancesFrom-either _ _ _ _ _ _ _ _ _ _ _ _ _ _ _ _ _ _ _ _ c.split-in-Either.ensures c.split-in-Either-2.ensures
    (rw c.deref-in-Either.ensures at c.in_ok-front-in-Either.ensures) (rw c.deref-in-Either-2.ensures at c.in_ok-back-in-Either.ensures)
    c.or.ensures.was_end c.or.ensures.is_end
    )

pub returns-in-Opt : goal.returns-in-Opt
returns-in-Opt t c =
    let member = rw c.deref-in-Opt.ensures at c.advance-in-Opt.ensures in
    rw c.in-Opt.is (IfOk-weaker _ _ _ (λ e h. AdvancesFrom-optional _ _ _ _ _ _ _ _ _ h) member)

pub returns-in_ok-round-in-Plus : goal.returns-in_ok-round-in-Plus
returns-in_ok-round-in-Plus t c =
    let end = c.end_at-in-Plus.ensures in
    let enters : c.if-entered-2.advance ≡ (c.args.entered || not c.is_empty-was_end.result) = search rules in
    rw c.in-Plus.is (
    ok_by _ _ _ _ end.ends end.next (λ e ends next.
    AdvancesFrom-repeated _ _ _ _ _ _ _ _ _ _ _ _ _ _ _ _ _ c.split-in-Plus.ensures ends.0 (ap not c.is_empty-was_end.ensures) enters
    (rw c.deref-in-Plus.ensures at c.in_ok-round-in-Plus.ensures) next ends.1)
    )
