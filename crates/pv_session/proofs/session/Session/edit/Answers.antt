use Rattle.std.proofs.Common.{[], subst, ◌++◌, ◌∷◌, ◌≡◌}
use Rattle.std.proofs.lemmas.Result.{err_from_is_err_and}
use Rattle.pv_session.specs.Sessions.{PlainSession}
use Rattle.pv_session.specs.Steps.{IsEditStep, is_done}
use Rattle.pv_session.proofs.Moves.{edit_is_step, edit_keeps, refused_step, session_of}
use Rattle.pv_session.proofs.session.Session.edit.Goals as goal

pub returns-in_err-done-clause-stepped : goal.returns-in_err-done-clause-stepped
returns-in_err-done-clause-stepped g c =
    let i = c.self.inside in
    let p = err_from_is_err_and c.from_residual.result c.from_residual.ensures.1 in
    rw (p.1, p.2)
    (refused_step c.args.self.now i.marked i.past.items i.ways_back.items i.undone.items i.moves
    c.self.view_is c.args.edit.now c.in_err-done.field-0.0 c.in_err-done.ensures.refused
    c.edit.new.self c.in_err-done.ensures.unchanged
    c.make_room.new.past.items c.make_room.new.ways_back.items c.make_room.ensures.past c.make_room.ensures.ways_back)

pub invariant_of-self-2 : goal.invariant_of-self-2
invariant_of-self-2 g c =
    let i = c.self.inside in
    let edit = c.args.edit.now in
    let d = c.in_ok-done in
    let p : c.push_reserved.new.self.items ≡ i.past.items ++ edit ∷ [] = cc (c.push_reserved.ensures.items, c.make_room.ensures.past, c.in-Ok.ensures) in
    let w : c.push_reserved-2.new.self.items ≡ i.ways_back.items ++ d.way_back ∷ [] = cc (c.push_reserved-2.ensures.items, c.make_room.ensures.ways_back) in
    edit_keeps c.leads_back_law.ensures c.other_marks_law.ensures i.marked i.past.items
    i.ways_back.items i.undone.items i.moves c.self.invariant edit c.next_move-moves.result
    c.next_move-moves.ensures d.done d.way_back c.edit.new.self d.ensures.edited
    c.holdable_law.ensures.holdable c.holdable_law.ensures.kept
    c.push_reserved.new.self.items c.clear.new.self.items c.push_reserved-2.new.self.items p w c.clear.ensures.items

pub returns-clause-stepped : goal.returns-clause-stepped
returns-clause-stepped g c =
    let i = c.self.inside in
    let edit = c.args.edit.now in
    let d = c.in_ok-done in
    let p : c.push_reserved.new.self.items ≡ i.past.items ++ edit ∷ [] = cc (c.push_reserved.ensures.items, c.make_room.ensures.past, c.in-Ok.ensures) in
    let w : c.push_reserved-2.new.self.items ≡ i.ways_back.items ++ d.way_back ∷ [] = cc (c.push_reserved-2.ensures.items, c.make_room.ensures.ways_back) in
    let step = edit_is_step c.leads_back_law.ensures c.other_marks_law.ensures i.marked i.past.items
    i.ways_back.items i.undone.items i.moves c.self.invariant edit c.next_move-moves.result
    c.next_move-moves.ensures d.done d.way_back c.edit.new.self d.ensures.edited
    c.holdable_law.ensures.holdable c.holdable_law.ensures.kept
    c.push_reserved.new.self.items c.clear.new.self.items c.push_reserved-2.new.self.items p w c.clear.ensures.items in
    subst (λ (s : PlainSession). IsEditStep s edit (is_done d.done.checked d.done.left d.done.bad)
    (session_of c.edit.new.self c.push_reserved.new.self.items c.push_reserved-2.new.self.items
    c.clear.new.self.items c.next_move-moves.result)) c.self.view_is step
