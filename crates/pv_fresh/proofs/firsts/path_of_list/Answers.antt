use Rattle.std.proofs.Common.{Some, arith, slice_get, subst, suc, ℕ, ◌+◌, ◌-◌, ◌∙◌, ◌≡◌}
use Rattle.std.proofs.lemmas.Result.{IfOk-weaker}
use Rattle.pv_fresh.proofs.Lists.{come_there, left_by, there_next}
use Rattle.pv_fresh.proofs.firsts.path_of_list.Goals as goal

pub loop-list-init : goal.loop-list-init
loop-list-init c = λ list e. let whole : c.args.number - 0 ≡ c.args.number = omega arith in rw (c.of-lists.ensures.lists, whole) e

pub loop-list-preserved : goal.loop-list-preserved
loop-list-preserved c = λ list e.
    let here : c.args.number - c.loop-list._list ≡ suc (c.args.number - (c.loop-list._list + 1)) = omega arith in
    there_next c.loop-list.lists c.next.new.self _ (c.args.number - (c.loop-list._list + 1)) list c.in_ok-next.ensures.given
    (subst (λ (n : ℕ). slice_get (left_by c.loop-list.lists) n ≡ Some list) here (c.loop-list.invariant list e))

pub returns : goal.returns
returns c =
    IfOk-weaker c.path.result _ _
    (λ path is list e.
    let none : c.args.number - c.loop-list._list ≡ 0 = omega arith in
    is ∙ come_there c.loop-list.lists c.next-2.new.self _ list c.in_ok-next-2.ensures.given
    (subst (λ (n : ℕ). slice_get (left_by c.loop-list.lists) n ≡ Some list) none (c.loop-list.invariant list e)))
    c.path.ensures
