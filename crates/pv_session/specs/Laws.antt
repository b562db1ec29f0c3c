-- What holds of sessions and their steps.
use Rattle.std.specs.Prelude.{◌≡◌, List}
use Rattle.pv_edit.specs.declared.edits.Edit.{Edit}
use Rattle.pv_session.specs.Sessions.{PlainSession, Replays}
use Rattle.pv_session.specs.Steps.{IsEditStep, IsRedoStep, IsUndoStep, PlainAnswer}
use Rattle.pv_tree.specs.Plain.{PlainDoc}

-- Edits lead from a document to one other at most.
abbrev pub ReplaysToOne : Type 0
ReplaysToOne = (doc after other : PlainDoc Unit) (edits : List Edit) → Replays doc edits after →
    Replays doc edits other → after ≡ other

-- a relation between sessions gives one answer and one session after it
abbrev pub HasOneAnswer : (PlainSession → PlainAnswer → PlainSession → Type 0) → Type 0
HasOneAnswer Step =
    (before after other : PlainSession) (answer another : PlainAnswer) → Step before answer after →
    Step before another other →
    (answer ≡ another) × (after ≡ other)

-- An edit, an undo and a redo have one answer each, and one session after it.
pub record StepsHaveOneAnswer : Type 0 where
  pub edit : (edit : Edit) → HasOneAnswer
      (λ before answer after. IsEditStep before edit answer after)
  pub undo : HasOneAnswer IsUndoStep
  pub redo : HasOneAnswer IsRedoStep
