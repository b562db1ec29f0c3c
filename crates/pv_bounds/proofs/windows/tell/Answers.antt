use Rattle.std.specs.Vec.{with_items}
use Rattle.std.proofs.Common.{arith, subst, sym, ◌≡◌}
use Rattle.std.proofs.lemmas.List.{with_items_is}
use Rattle.pv_bounds.specs.Windows.{KeepsTold, TellsReach}
use Rattle.pv_bounds.proofs.ChangedLevels.{keeps_both}
use Rattle.pv_bounds.proofs.windows.tell.Goals as goal

pub returns-clause-told : goal.returns-clause-told
returns-clause-told c =
    let new = c.tell_at.new.levels in
    let e : (with_items c.level_for.new.levels new).items ≡ new = with_items_is
    c.level_for.new.levels new (let l = c.tell_at.auto.levels in let m = c.deref_mut.ensures.len in
    omega arith) in
    subst (λ xs. TellsReach xs c.args.place c.args.reach) (sym e) c.in_ok-tell_at.ensures.told

pub returns-clause-kept : goal.returns-clause-kept
returns-clause-kept c =
    let new = c.tell_at.new.levels in
    let e : (with_items c.level_for.new.levels new).items ≡ new = with_items_is
    c.level_for.new.levels new (let l = c.tell_at.auto.levels in let m = c.deref_mut.ensures.len in
    omega arith) in
    let k = rw c.deref_mut.ensures.value at c.in_ok-tell_at.ensures.kept in
    subst (λ xs. KeepsTold c.args.levels.now.items xs) (sym e)
    (keeps_both c.args.levels.now.items c.level_for.new.levels.items new
    c.in_ok-index.ensures.kept k)
