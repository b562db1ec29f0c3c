use Rattle.std.proofs.Common.{[], refl, subst, sym, ◌++◌, ◌∙◌, ◌∷◌, ◌≡◌}
use Rattle.std.proofs.lemmas.List.{same_from_push}
use Rattle.pv_cache.specs.Moves.{HasGround, IsEdited}
use Rattle.pv_edit.specs.declared.answers.EditAnswer.TheVariants as answer
use Rattle.pv_tree.specs.Marks.{unmarked_doc}
use Rattle.pv_edit.specs.declared.edits.Edit.{Edit}
use Rattle.pv_session.specs.Sessions.{PlainSession}
use Rattle.pv_session.specs.Steps.{IsRedoStep, is_done}
use Rattle.pv_session.proofs.LastItems.{last_of}
use Rattle.pv_session.proofs.Moves.{can_redo, redo_is_step, redo_keeps, session_of}
use Rattle.pv_session.proofs.StampsAlone.{unmarked_bare}
use Rattle.pv_session.proofs.session.Session.redo.Goals as goal

pub unreachable-requires-in-Err-Shape : goal.unreachable-requires-in-Err-Shape
unreachable-requires-in-Err-Shape g c =
    let i = c.self.inside in
    let last = c.in-Some.edit.now in
    let l = last_of i.undone.items c.deref.result.now last c.deref.ensures.value c.in-Some.ensures.value in
    let n = can_redo c.leads_back_law.ensures c.other_marks_law.ensures i.marked i.past.items i.ways_back.items i.undone.items i.moves c.self.invariant last l in
    let h : HasGround 0 i.marked.dtd i.marked.root i.marked.doc last (answer.Shape c.in-Err-Shape.field-0-0) = rw c.in-Err-Shape.field-0-is at c.in-Err-Shape.ensures.refused in
    let z = c.accepted_law.ensures tt 0 i.marked.dtd i.marked.root (unmarked_doc i.marked.doc)
    i.marked.doc last n.next (answer.Shape c.in-Err-Shape.field-0-0)
    (unmarked_bare (unmarked_doc i.marked.doc)) n.accepted h in
    absurd cc

pub unreachable-requires-in-Err-Limit : goal.unreachable-requires-in-Err-Limit
unreachable-requires-in-Err-Limit g c =
    let i = c.self.inside in
    let last = c.in-Some.edit.now in
    let l = last_of i.undone.items c.deref.result.now last c.deref.ensures.value c.in-Some.ensures.value in
    let n = can_redo c.leads_back_law.ensures c.other_marks_law.ensures i.marked i.past.items i.ways_back.items i.undone.items i.moves c.self.invariant last l in
    let h : HasGround 0 i.marked.dtd i.marked.root i.marked.doc last answer.Limit = rw c.in-Err-Limit.field-0-is at c.in-Err-Limit.ensures.refused in
    let z = c.accepted_law.ensures tt 0 i.marked.dtd i.marked.root (unmarked_doc i.marked.doc) i.marked.doc last n.next answer.Limit (unmarked_bare (unmarked_doc i.marked.doc)) n.accepted h in
    absurd cc

pub unreachable-requires-in-Err-Impossible : goal.unreachable-requires-in-Err-Impossible
unreachable-requires-in-Err-Impossible g c =
    let i = c.self.inside in
    let last = c.in-Some.edit.now in
    let l = last_of i.undone.items c.deref.result.now last c.deref.ensures.value c.in-Some.ensures.value in
    let n = can_redo c.leads_back_law.ensures c.other_marks_law.ensures i.marked i.past.items i.ways_back.items i.undone.items i.moves c.self.invariant last l in
    let h : HasGround 0 i.marked.dtd i.marked.root i.marked.doc last (answer.Impossible c.in-Err-Impossible.field-0-0) = rw c.in-Err-Impossible.field-0-is at c.in-Err-Impossible.ensures.refused in
    let z = c.accepted_law.ensures tt 0 i.marked.dtd i.marked.root (unmarked_doc i.marked.doc)
    i.marked.doc last n.next (answer.Impossible c.in-Err-Impossible.field-0-0)
    (unmarked_bare (unmarked_doc i.marked.doc)) n.accepted h in
    absurd cc

pub invariant_of-self-2 : goal.invariant_of-self-2
invariant_of-self-2 g c =
    let i = c.self.inside in
    let last = c.in-Some.edit.now in
    let l = last_of i.undone.items c.deref.result.now last c.deref.ensures.value c.in-Some.ensures.value in
    let rest = c.pop.new.self.items in
    let edit = c.in-Some-pop.edit in
    let e : i.undone.items ≡ rest ++ edit ∷ [] = c.in-Some-pop.ensures.items in
    let same = same_from_push l.front rest last edit (sym l.whole ∙ e) in
    let m = c.in-Ok.made in
    let edited = subst (λ (x : Edit). IsEdited i.marked x c.next_move-moves.result m.0 m.1 c.edit.new.self) same.1 c.in-Ok.ensures.edited in
    let p : c.push_reserved.new.self.items ≡ i.past.items ++ edit ∷ [] = cc (c.push_reserved.ensures.items, c.make_room.ensures.past) in
    let w : c.push_reserved-2.new.self.items ≡ i.ways_back.items ++ m.1 ∷ [] = cc (c.push_reserved-2.ensures.items, c.make_room.ensures.ways_back) in
    redo_keeps c.leads_back_law.ensures c.other_marks_law.ensures i.marked i.past.items
    i.ways_back.items i.undone.items i.moves c.self.invariant edit c.next_move-moves.result
    c.next_move-moves.ensures m.0 m.1 c.edit.new.self edited c.holdable_law.ensures.holdable
    c.holdable_law.ensures.kept
    c.push_reserved.new.self.items rest c.push_reserved-2.new.self.items p w rest e refl

pub returns-clause-stepped : goal.returns-clause-stepped
returns-clause-stepped g c =
    let i = c.self.inside in
    let last = c.in-Some.edit.now in
    let l = last_of i.undone.items c.deref.result.now last c.deref.ensures.value c.in-Some.ensures.value in
    let rest = c.pop.new.self.items in
    let edit = c.in-Some-pop.edit in
    let e : i.undone.items ≡ rest ++ edit ∷ [] = c.in-Some-pop.ensures.items in
    let same = same_from_push l.front rest last edit (sym l.whole ∙ e) in
    let m = c.in-Ok.made in
    let edited = subst (λ (x : Edit). IsEdited i.marked x c.next_move-moves.result m.0 m.1 c.edit.new.self) same.1 c.in-Ok.ensures.edited in
    let p : c.push_reserved.new.self.items ≡ i.past.items ++ edit ∷ [] = cc (c.push_reserved.ensures.items, c.make_room.ensures.past) in
    let w : c.push_reserved-2.new.self.items ≡ i.ways_back.items ++ m.1 ∷ [] = cc (c.push_reserved-2.ensures.items, c.make_room.ensures.ways_back) in
    let step = redo_is_step c.leads_back_law.ensures c.other_marks_law.ensures i.marked i.past.items
    i.ways_back.items i.undone.items i.moves c.self.invariant edit c.next_move-moves.result
    c.next_move-moves.ensures m.0 m.1 c.edit.new.self edited c.holdable_law.ensures.holdable
    c.holdable_law.ensures.kept
    c.push_reserved.new.self.items rest c.push_reserved-2.new.self.items p w rest e refl in
    subst (λ (s : PlainSession). IsRedoStep s (is_done m.0.checked m.0.left m.0.bad)
    (session_of c.edit.new.self c.push_reserved.new.self.items c.push_reserved-2.new.self.items
    rest c.next_move-moves.result)) c.self.view_is step
