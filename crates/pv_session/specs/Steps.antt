-- The steps of a session: what an edit, an undo or a redo is answered, and what the session is at
-- after it.
use Rattle.std.specs.Prelude.{◌≡◌, ◌++◌, List, None, Option, Some, [], length, ℕ, ◌∷◌}
use Rattle.pv_cache.specs.AcceptedEdits.{IsAccepted}
use Rattle.pv_cache.specs.Moves.{HasBad, HasGround, HasOpen}
use Rattle.pv_cache.specs.Stamps.{stamp_lists}
use Rattle.pv_edit.specs.ChangedLists.{changed_lists, makes, undoes}
use Rattle.pv_edit.specs.Inverses.{inverse_of, doc_back}
use Rattle.pv_edit.specs.Reasons.{edit_outcome, gives}
use Rattle.pv_edit.specs.declared.answers.EditAnswer.{EditAnswer}
use Rattle.pv_edit.specs.declared.answers.EditAnswer.TheVariants as refusal
use Rattle.pv_edit.specs.declared.edits.Edit.{Edit}
use Rattle.pv_edit.specs.declared.reasons.Reason.{Reason}
use Rattle.pv_session.specs.Sessions.{PlainSession, Replays, next_move, stamped_document}
use Rattle.pv_tree.specs.Marks.{unmarked_doc}
use Rattle.pv_tree.specs.Plain.{PlainDoc}

-- The answer to a move. `is_done`: it was made; so many lists were changed, so many lists are
-- Possible now, and so many Impossible.
pub data PlainAnswer : Type 0 where
  is_done : (changed left bad : ℕ) → PlainAnswer
  lacks_shape : (reason : Reason) → PlainAnswer
  is_past_limit : PlainAnswer
  is_impossible : (path : List ℕ) → PlainAnswer
  lacks_history : PlainAnswer

-- the document after a move that changed these lists: they have the move's number for a stamp, and
-- each other list keeps its own
abbrev pub behind_move : PlainSession → List (List ℕ) → PlainDoc ℕ → PlainDoc ℕ
behind_move s changed doc = stamp_lists (next_move s.moves) changed doc

-- the answer to an edit that is refused on a ground; want of memory is none
abbrev pub refusal_of : EditAnswer → Option PlainAnswer
refusal_of (refusal.Shape reason) = Some (lacks_shape reason)
refusal_of (refusal.Impossible path) = Some (is_impossible path)
refusal_of refusal.Limit = Some is_past_limit
refusal_of refusal.NoMemory = None

-- An edit that is accepted joins the past, and what was undone is dropped. Any other is refused on
-- a ground (`HasGround` of pv_cache), and leaves the session as it was.
pub data IsEditStep (before : PlainSession) (edit : Edit) (answer : PlainAnswer)
    (after : PlainSession)
    : Type 0 where
  accepted : (edited : PlainDoc ℕ) (left bad : ℕ) →
      IsAccepted 0 before.dtd before.root before.doc edit edited →
      after ≡ record before {
        past = before.past ++ edit ∷ [];
        undone = [];
        moves = next_move before.moves;
        doc = behind_move before (changed_lists (makes edit)) edited;
      } →
      HasOpen (stamped_document after) left → HasBad (stamped_document after) bad →
      answer ≡ is_done (length (changed_lists (makes edit))) left bad →
      IsEditStep before edit answer after
  refused : (why : EditAnswer) → HasGround 0 before.dtd before.root before.doc edit why →
      refusal_of why ≡ Some answer → after ≡ before → IsEditStep before edit answer after

-- The last edit of the past is the last undone one now, and the document is what the edits before
-- it make of the opened one.
pub data IsUndoStep (before : PlainSession) (answer : PlainAnswer) (after : PlainSession) :
    Type 0 where
  undone : (edit : Edit) (past : List Edit) (doc : PlainDoc Unit) (left bad : ℕ) →
      before.past ≡ past ++ edit ∷ [] → Replays before.opened past doc →
      unmarked_doc after.doc ≡ doc →
      after ≡ record before {
        past = past;
        undone = before.undone ++ edit ∷ [];
        moves = next_move before.moves;
        doc = behind_move before (changed_lists (undoes edit))
            (doc_back 0 before.doc (inverse_of doc.root edit));
      } →
      HasOpen (stamped_document after) left → HasBad (stamped_document after) bad →
      answer ≡ is_done (length (changed_lists (undoes edit))) left bad →
      IsUndoStep before answer after
  no_past : before.past ≡ [] → answer ≡ lacks_history → after ≡ before →
      IsUndoStep before answer after

-- The last undone edit joins the past again, and the document is what all of the past makes of the
-- opened one.
pub data IsRedoStep (before : PlainSession) (answer : PlainAnswer) (after : PlainSession) :
    Type 0 where
  redone : (edit : Edit) (undone : List Edit) (edited : PlainDoc ℕ) (left bad : ℕ) →
      before.undone ≡ undone ++ edit ∷ [] → edit_outcome 0 before.doc edit ≡ gives edited →
      Replays before.opened (before.past ++ edit ∷ []) (unmarked_doc after.doc) →
      after ≡ record before {
        past = before.past ++ edit ∷ [];
        undone = undone;
        moves = next_move before.moves;
        doc = behind_move before (changed_lists (makes edit)) edited;
      } →
      HasOpen (stamped_document after) left → HasBad (stamped_document after) bad →
      answer ≡ is_done (length (changed_lists (makes edit))) left bad →
      IsRedoStep before answer after
  none_undone : before.undone ≡ [] → answer ≡ lacks_history → after ≡ before →
      IsRedoStep before answer after
