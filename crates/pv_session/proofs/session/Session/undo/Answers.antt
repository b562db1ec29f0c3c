use Rattle.std.proofs.Common.{[], ap, refl, subst, ◌++◌, ◌∷◌, ◌≡◌}
use Rattle.std.specs.Option.{option_copied}
use Rattle.pv_session.specs.Sessions.{PlainSession}
use Rattle.pv_session.specs.Steps.{IsUndoStep, is_done, lacks_history}
use Rattle.pv_session.proofs.LastItems.{last_of, none_of, not_none, popped, popped_none}
use Rattle.pv_session.proofs.Moves.{can_undo, holdable_before, last_made, leads_back, nothing_to_undo, session_of, undo_is_step, undo_keeps}
use Rattle.pv_session.proofs.session.Session.undo.Goals as goal

pub returns-in_default-clause-stepped : goal.returns-in_default-clause-stepped
returns-in_default-clause-stepped g c =
    let i = c.self.inside in
    let ways = i.ways_back.items in
    let e : ways ≡ [] = none_of ways c.deref.result.now _ c.deref.ensures.value c.last.ensures.value (ap option_copied c.in_default.is) in
    subst (λ (t : PlainSession). IsUndoStep t lacks_history t) c.self.view_is
    (nothing_to_undo c.leads_back_law.ensures c.other_marks_law.ensures i.marked i.past.items
    ways i.undone.items i.moves c.self.invariant e)

pub revert-requires : goal.revert-requires
revert-requires g c =
    let i = c.self.inside in
    let ways = i.ways_back.items in
    let k = c.self.invariant in
    let way = c.in-Some.way_back.now in
    let u = can_undo c.leads_back_law.ensures c.other_marks_law.ensures i.marked i.past.items ways
    i.undone.items i.moves k way (last_of ways c.deref.result.now way c.deref.ensures.value
    c.in-Some.ensures.value) in
    let m = last_made c.leads_back_law.ensures c.other_marks_law.ensures i.marked i.past.items ways i.undone.items i.moves k u.made.front u.last.front u.edit way u.made.whole u.last.whole in (
      m.before,
      leads_back c.leads_back_law.ensures c.other_marks_law.ensures i.marked i.past.items ways i.undone.items i.moves k u.made.front u.last.front u.edit way u.made.whole u.last.whole,
      holdable_before c.leads_back_law.ensures c.other_marks_law.ensures i.marked i.past.items ways i.undone.items i.moves k u.made.front u.last.front u.edit way u.made.whole u.last.whole,
    )

pub unreachable-requires : goal.unreachable-requires
unreachable-requires g c =
    let i = c.self.inside in
    let ways = i.ways_back.items in
    let way = c.in-Some.way_back.now in
    let u = can_undo c.leads_back_law.ensures c.other_marks_law.ensures i.marked i.past.items ways
    i.undone.items i.moves c.self.invariant way (last_of ways c.deref.result.now way
    c.deref.ensures.value c.in-Some.ensures.value) in
    let n = c.in_default-pop.ensures in
    not_none i.past.items u.made.front u.edit u.made.whole (popped_none i.past.items c.pop.new.self.items _ n.items n.rest n.cases.0)

pub invariant_of-self-2 : goal.invariant_of-self-2
invariant_of-self-2 g c =
    let i = c.self.inside in
    let ways = i.ways_back.items in
    let k = c.self.invariant in
    let way = c.in-Some.way_back.now in
    let u = can_undo c.leads_back_law.ensures c.other_marks_law.ensures i.marked i.past.items ways
    i.undone.items i.moves k way (last_of ways c.deref.result.now way c.deref.ensures.value
    c.in-Some.ensures.value) in
    let past = c.pop.new.self.items in
    let edit = c.in-Some-pop.edit in
    let e : i.past.items ≡ past ++ edit ∷ [] = c.in-Some-pop.ensures.items in
    let m = last_made c.leads_back_law.ensures c.other_marks_law.ensures i.marked i.past.items ways i.undone.items i.moves k past u.last.front edit way e u.last.whole in
    let back = leads_back c.leads_back_law.ensures c.other_marks_law.ensures i.marked i.past.items ways i.undone.items i.moves k past u.last.front edit way e u.last.whole in
    let v : c.push_reserved.new.self.items ≡ i.undone.items ++ edit ∷ [] = cc (c.push_reserved.ensures.items, c.reserve.ensures.items) in
    let w : c.pop-2.new.self.items ≡ u.last.front = popped ways u.last.front c.pop-2.new.self.items
    way c.pop-2.result _ _ u.last.whole c.pop-2.ensures.items c.pop-2.ensures.rest
    c.pop-2.ensures.cases in
    undo_keeps c.leads_back_law.ensures c.other_marks_law.ensures i.marked i.past.items ways
    i.undone.items i.moves k past u.last.front edit way e u.last.whole c.next_move-moves.result
    c.next_move-moves.ensures c.in-Ok.done c.revert.new.self (c.in-Ok.ensures.reverted m.before back)
    c.holdable_law.ensures.holdable c.holdable_law.ensures.kept past c.push_reserved.new.self.items c.pop-2.new.self.items refl v w

pub returns-clause-stepped : goal.returns-clause-stepped
returns-clause-stepped g c =
    let i = c.self.inside in
    let ways = i.ways_back.items in
    let k = c.self.invariant in
    let way = c.in-Some.way_back.now in
    let u = can_undo c.leads_back_law.ensures c.other_marks_law.ensures i.marked i.past.items ways
    i.undone.items i.moves k way (last_of ways c.deref.result.now way c.deref.ensures.value
    c.in-Some.ensures.value) in
    let past = c.pop.new.self.items in
    let edit = c.in-Some-pop.edit in
    let e : i.past.items ≡ past ++ edit ∷ [] = c.in-Some-pop.ensures.items in
    let m = last_made c.leads_back_law.ensures c.other_marks_law.ensures i.marked i.past.items ways i.undone.items i.moves k past u.last.front edit way e u.last.whole in
    let back = leads_back c.leads_back_law.ensures c.other_marks_law.ensures i.marked i.past.items ways i.undone.items i.moves k past u.last.front edit way e u.last.whole in
    let v : c.push_reserved.new.self.items ≡ i.undone.items ++ edit ∷ [] = cc (c.push_reserved.ensures.items, c.reserve.ensures.items) in
    let w : c.pop-2.new.self.items ≡ u.last.front = popped ways u.last.front c.pop-2.new.self.items
    way c.pop-2.result _ _ u.last.whole c.pop-2.ensures.items c.pop-2.ensures.rest
    c.pop-2.ensures.cases in
    let step = undo_is_step c.leads_back_law.ensures c.other_marks_law.ensures i.marked i.past.items
    ways i.undone.items i.moves k past u.last.front edit way e u.last.whole
    c.next_move-moves.result c.next_move-moves.ensures c.in-Ok.done c.revert.new.self
    (c.in-Ok.ensures.reverted m.before back)
    c.holdable_law.ensures.holdable c.holdable_law.ensures.kept past c.push_reserved.new.self.items c.pop-2.new.self.items refl v w in
    subst (λ (s : PlainSession). IsUndoStep s (is_done c.in-Ok.done.checked c.in-Ok.done.left
    c.in-Ok.done.bad) (session_of c.revert.new.self past c.pop-2.new.self.items
    c.push_reserved.new.self.items c.next_move-moves.result)) c.self.view_is step
