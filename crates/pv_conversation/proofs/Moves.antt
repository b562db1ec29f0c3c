-- What `ok` tells of a move.
use Rattle.std.proofs.Common.{◌≡◌, ◌∙◌, ◌≤◌, ℕ, length, Some, subst, sym, arith}
use Rattle.std.proofs.Math.Logic.{∥∥₁_elim, ∥∥₁_map}
use Rattle.std.specs.Coded.{Coded-set, coded_ℕ}
use Rattle.std.specs.Prelude.{◌↔◌}
use Rattle.pv_cache.specs.Moves.{HasBad}
use Rattle.pv_dtd.specs.Proper.{IsProperDtd}
use Rattle.pv_edit.specs.ChangedLists.{Move, changed_lists, makes, undoes}
use Rattle.pv_edit.specs.declared.answers.Done.{Done}
use Rattle.pv_edit.specs.declared.answers.EditAnswer.{EditAnswer}
use Rattle.pv_edit.specs.declared.answers.EditAnswer.TheVariants as refusal
use Rattle.pv_edit.specs.declared.edits.Edit.{Edit}
use Rattle.pv_edit.specs.declared.edits.Edit.TheVariants.{Wrap, Insert, Unwrap, Rename, Split, Join, SetText, AddText, DelText}
use Rattle.pv_missing.proofs.NoImpossibleLists.{none_impossible}
use Rattle.pv_missing.specs.Completions.{IsPotentiallyValid}
use Rattle.pv_missing.specs.Verdicts.{HaveImpossible, impossible_in}
use Rattle.pv_session.specs.SessionFacts.{IsSession}
use Rattle.pv_session.specs.Sessions.{PlainSession, stamped_document}
use Rattle.pv_session.specs.Steps.{IsEditStep, IsRedoStep, IsUndoStep, accepted, is_done, no_past, none_undone, redone, refusal_of, refused, undone}
use Rattle.pv_tree.specs.Lists.{lists_of}
use Rattle.pv_tree.specs.View.{view}
use Rattle.pv_conversation.specs.Session.{TellsMove}

-- a move changes two lists at most
pub few_changed : (move : Move) → length (changed_lists move) ≤ 2
few_changed (makes (Wrap path from to name)) = omega arith
few_changed (makes (Insert path at name)) = omega arith
few_changed (makes (Unwrap path)) = omega arith
few_changed (makes (Rename path name)) = omega arith
few_changed (makes (Split path at)) = omega arith
few_changed (makes (Join path)) = omega arith
few_changed (makes (SetText path text)) = omega arith
few_changed (makes (AddText path at text)) = omega arith
few_changed (makes (DelText path)) = omega arith
few_changed (undoes (Wrap path from to name)) = omega arith
few_changed (undoes (Insert path at name)) = omega arith
few_changed (undoes (Unwrap path)) = omega arith
few_changed (undoes (Rename path name)) = omega arith
few_changed (undoes (Split path at)) = omega arith
few_changed (undoes (Join path)) = omega arith
few_changed (undoes (SetText path text)) = omega arith
few_changed (undoes (AddText path at text)) = omega arith
few_changed (undoes (DelText path)) = omega arith

-- what was done, and what is bad after it
pub record IsCounted (after : PlainSession) (checked bad : ℕ) : Type 0 where
  pub few : checked ≤ 2
  pub has : HasBad (stamped_document after) bad

counted_by : (after : PlainSession) (move : Move) (checked left bad open_now bad_now : ℕ) → HasBad (stamped_document after) bad_now →
    is_done checked left bad ≡ is_done (length (changed_lists move)) open_now bad_now → IsCounted after checked bad
counted_by after move checked left bad open_now bad_now has is =
    let count : checked ≡ length (changed_lists move) = cc in
    let same : bad_now ≡ bad = cc in
    record { few = omega (arith, count, few_changed move); has = subst (HasBad (stamped_document after)) same has }

not_refused : (why : EditAnswer) (checked left bad : ℕ) → refusal_of why ≡ Some (is_done checked left bad) → ⊥
not_refused (refusal.Shape reason) checked left bad is = cc
not_refused (refusal.Impossible path) checked left bad is = cc
not_refused refusal.Limit checked left bad is = cc
not_refused refusal.NoMemory checked left bad is = cc

pub edit_counted : (before : PlainSession) (edit : Edit) (checked left bad : ℕ) (after : PlainSession) → IsEditStep before edit (is_done checked left bad) after → IsCounted after checked bad
edit_counted before edit checked left bad after (accepted edited open_now bad_now may behind has_open has_bad is) = counted_by after (makes edit) checked left bad open_now bad_now has_bad is
edit_counted before edit checked left bad after (refused why ground is stays) = absurd (not_refused why checked left bad is)

pub undo_counted : (before : PlainSession) (checked left bad : ℕ) (after : PlainSession) → IsUndoStep before (is_done checked left bad) after → IsCounted after checked bad
undo_counted before checked left bad after (undone edit past doc open_now bad_now was replays led
    behind has_open has_bad is) = counted_by after (undoes edit) checked left bad open_now bad_now has_bad is
undo_counted before checked left bad after (no_past none is stays) = cc

pub redo_counted : (before : PlainSession) (checked left bad : ℕ) (after : PlainSession) → IsRedoStep before (is_done checked left bad) after → IsCounted after checked bad
redo_counted before checked left bad after (redone edit rest edited open_now bad_now was gives
    replays behind has_open has_bad is) = counted_by after (makes edit) checked left bad open_now
    bad_now has_bad is
redo_counted before checked left bad after (none_undone none is stays) = cc

-- no list is impossible exactly where inserting elements can make the document valid
pub tells_move : (s : PlainSession) (done : Done) → IsSession s → IsProperDtd s.dtd → done.checked ≤ 2 → HasBad (stamped_document s) done.bad → TellsMove s done
tells_move s done is proper few bad = record {
  few = few;
  possible = (
    λ none. ∥∥₁_map bad (λ have. (law have).1 (sym have.count ∙ none)),
    λ can. ∥∥₁_elim bad (Coded-set coded_ℕ done.bad 0) (λ have. ∥∥₁_elim can (Coded-set coded_ℕ done.bad 0) (λ possible. have.count ∙ (law have).0 possible)),
  );
}
  where
    law : (have : HaveImpossible s.dtd s.root (lists_of s.doc) done.bad) → IsPotentiallyValid s.dtd s.root (view s.doc.root) ↔ (impossible_in have.verdicts ≡ 0)
    law have = none_impossible ℕ s.dtd s.root s.doc have.verdicts proper (record { rooted = is.kept.rooted; units = is.kept.units }) have.are_verdicts
