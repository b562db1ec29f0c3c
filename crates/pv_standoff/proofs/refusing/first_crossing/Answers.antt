use Rattle.std.proofs.Common.{◌≡◌, ◌≤◌, ◌+◌, [], ◌∷◌, ◌++◌, take, drop, sym, ◌∙◌, ap, subst, arith}
use Rattle.std.specs.List.{AllByRecursion}
use Rattle.pv_standoff.specs.Ranges.{AreSorted, NoneCrossLater}
use Rattle.pv_standoff.specs.PlainForms.{seen}
use Rattle.pv_standoff.specs.Stacks.{AreStillOpen}
use Rattle.pv_standoff.specs.PlainForms.{innermost_first}
use Rattle.pv_standoff.proofs.BuiltDocuments.{drop_next, take_next, split_next, order_back}
use Rattle.pv_standoff.proofs.FirstCrossing.{covers_later, covers_push, covers_none, none_cross_push, round_all, stack_push, first_crossing}
use Rattle.pv_standoff.proofs.refusing.first_crossing.Goals as goal
use Rattle.pv_standoff.proofs.refusing.first_crossing.Goals.{in-Some+else-top-range+in_ok-push, in_default}

pub returns-then-top-range : goal.returns-then-top-range
returns-then-top-range c =
    let refs = c.args.sorted.now in
    let i = c.each.range-index in
    let v = c.each.invariant in
    let d = drop_next refs i c.range-item.result c.each-test.true c.range-item.is in
    let l = subst (λ z. AllByRecursion (λ x. v.0 ≤ x.from) z) d v.3 in
    let e = c.in-Some.ensures (take i (seen refs)) (covers_later v.0 c.range-item.result.now.from (take i (seen refs)) (innermost_first c.each.stack.items) l.0 v.2) in
    first_crossing (seen refs) (take i (seen refs)) (drop (i + 1) (seen refs)) c.range-item.result.now.from c.in-Some.top.now (innermost_first c.innermost.new.stack.items)
    c.range-item.result.now (split_next refs i c.range-item.result c.each-test.true c.range-item.is) c.requires v.1 e.1 (omega arith) e.0 c.if-top-range.true

pub each-preserved : goal.each-preserved
each-preserved c = (
  c.range-item.result.now.from,
  subst NoneCrossLater (sym more) (none_cross_push (take c.each.range-index (seen c.args.sorted.now)) c.range-item.result.now c.each.invariant.1
      (covers_none c.range-item.result.now.from _ (innermost_first c.match-innermost.stack.items) c.range-item.result.now held.0 (omega arith) held.1)),
  subst (λ z. AreStillOpen c.range-item.result.now.from z (innermost_first c.push-in-each.new.self.items)) (sym more)
      (subst (λ z. AreStillOpen c.range-item.result.now.from (take c.each.range-index (seen c.args.sorted.now) ++ c.range-item.result.now ∷ []) z)
      (sym (ap innermost_first c.in_ok-push-2.ensures.items ∙ stack_push c.match-innermost.stack.items c.range-item.result))
      (covers_push c.range-item.result.now.from _ (innermost_first c.match-innermost.stack.items) c.range-item.result.now held.0 held.1)),
  order_back (take c.each.range-index (seen c.args.sorted.now)) _ c.range-item.result.now
      (subst AreSorted (split_next c.args.sorted.now c.each.range-index c.range-item.result c.each-test.true c.range-item.is) c.requires),
)
  where
    more : take (c.each.range-index + 1) (seen c.args.sorted.now) ≡ take c.each.range-index (seen c.args.sorted.now) ++ c.range-item.result.now ∷ []
    more = take_next c.args.sorted.now c.each.range-index c.range-item.result c.each-test.true c.range-item.is

    now : AreStillOpen c.range-item.result.now.from (take c.each.range-index (seen c.args.sorted.now)) (innermost_first c.each.stack.items)
    now =
        let d = drop_next c.args.sorted.now c.each.range-index c.range-item.result c.each-test.true c.range-item.is in
        let l = subst (λ z. AllByRecursion (λ x. c.each.invariant.0 ≤ x.from) z) d c.each.invariant.3 in
        covers_later c.each.invariant.0 c.range-item.result.now.from _ (innermost_first c.each.stack.items) l.0 c.each.invariant.2

    held : AreStillOpen c.range-item.result.now.from (take c.each.range-index (seen c.args.sorted.now)) (innermost_first c.match-innermost.stack.items) ×
        AllByRecursion (λ g. c.range-item.result.now.to ≤ g.to) (innermost_first c.match-innermost.stack.items)
    held = elim c.match-innermost.branch [
      | in-Some+else-top-range+in_ok-push w ↦ (let e = w.in-Some.ensures (take c.each.range-index (seen c.args.sorted.now)) now in
          let o = ap (λ v. innermost_first v.items) w.stack-is ∙ ap innermost_first w.in_ok-push.ensures.items ∙ stack_push c.innermost.new.stack.items w.in-Some.top in (
            subst (AreStillOpen c.range-item.result.now.from (take c.each.range-index (seen c.args.sorted.now))) (sym o) e.1,
            subst (AllByRecursion (λ g. c.range-item.result.now.to ≤ g.to)) (sym o)
                (round_all c.range-item.result.now.from _ w.in-Some.top.now (innermost_first c.innermost.new.stack.items) c.range-item.result.now e.1 w.if-top-range.false),
          ))
      | in_default w ↦ (let e = w.in_default.ensures (take c.each.range-index (seen c.args.sorted.now)) now in
          let o = ap (λ v. innermost_first v.items) w.stack-is ∙ e.0 in (
            subst (AreStillOpen c.range-item.result.now.from (take c.each.range-index (seen c.args.sorted.now))) (sym o) e.1,
            subst (AllByRecursion (λ g. c.range-item.result.now.to ≤ g.to)) (sym o) tt,
          ))
    ]
