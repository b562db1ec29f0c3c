-- A move of a session leaves the DTD, its root's name and the document that was opened as they are.
use Rattle.std.proofs.Common.{subst, sym, ◌≡◌}
use Rattle.std.specs.Prelude.{None, Option, Some}
use Rattle.std.specs.Option.{MatchOption}
use Rattle.pv_complete.specs.RememberedGrammar.{Remembers}
use Rattle.pv_complete.specs.declared.missing.remembering.Remembered.{Remembered}
use Rattle.pv_edit.specs.declared.edits.Edit.{Edit}
use Rattle.pv_session.specs.Sessions.{PlainSession}
use Rattle.pv_session.specs.Steps.{IsEditStep, IsRedoStep, IsUndoStep, PlainAnswer, accepted, no_past, none_undone, redone, refused, undone}
use Rattle.pv_tree.specs.Prolog.{IsProlog}

module _ (r : Remembered) where
  -- a DOCTYPE of the opened document names the root, and this is right by the DTD
  abbrev pub Keeps : PlainSession → Type 0
  Keeps s = IsProlog s.root s.opened.before × Remembers s.dtd r

  edit_keeps : (s t : PlainSession) (edit : Edit) (answer : PlainAnswer) → IsEditStep s edit answer t → Keeps s → Keeps t
  edit_keeps s t edit answer (accepted edited left bad by is o b a) p = subst Keeps (sym is) p
  edit_keeps s t edit answer (refused why ground is same) p = subst Keeps (sym same) p

  undo_keeps : (s t : PlainSession) (answer : PlainAnswer) → IsUndoStep s answer t → Keeps s → Keeps t
  undo_keeps s t answer (undone edit past doc left bad e r l is o b a) p = subst Keeps (sym is) p
  undo_keeps s t answer (no_past e a same) p = subst Keeps (sym same) p

  redo_keeps : (s t : PlainSession) (answer : PlainAnswer) → IsRedoStep s answer t → Keeps s → Keeps t
  redo_keeps s t answer (redone edit rest edited left bad e g r is o b a) p = subst Keeps (sym is) p
  redo_keeps s t answer (none_undone e a same) p = subst Keeps (sym same) p

  -- where nothing was answered, the session is as it was
  pub still_keeps : (s t : PlainSession) (told : Option PlainAnswer) (Is : PlainAnswer → Type 0) →
      ((answer : PlainAnswer) → Is answer → Keeps s → Keeps t) → MatchOption told (t ≡ s) Is →
      Keeps s → Keeps t
  still_keeps s t None Is keeps same p = subst Keeps (sym same) p
  still_keeps s t (Some answer) Is keeps is p = keeps answer is p

  pub edited_keeps : (s t : PlainSession) (edit : Edit) (told : Option PlainAnswer) → MatchOption told (t ≡ s) (λ answer. IsEditStep s edit answer t) → Keeps s → Keeps t
  edited_keeps s t edit told = still_keeps s t told (λ answer. IsEditStep s edit answer t) (edit_keeps s t edit)

  pub undone_keeps : (s t : PlainSession) (told : Option PlainAnswer) → MatchOption told (t ≡ s) (λ answer. IsUndoStep s answer t) → Keeps s → Keeps t
  undone_keeps s t told = still_keeps s t told (λ answer. IsUndoStep s answer t) (undo_keeps s t)

  pub redone_keeps : (s t : PlainSession) (told : Option PlainAnswer) → MatchOption told (t ≡ s) (λ answer. IsRedoStep s answer t) → Keeps s → Keeps t
  redone_keeps s t told = still_keeps s t told (λ answer. IsRedoStep s answer t) (redo_keeps s t)
