-- The errors that tell why an edit is refused.
use Rattle.std.specs.Prelude.{◌≡◌, Option, Some}
use Rattle.pv_tree.specs.Plain.{PlainDoc}
use Rattle.pv_edit.specs.Reasons.{Outcome, gives, refuses}
use Rattle.pv_edit.specs.declared.reasons.Reason.{Reason}
use Rattle.pv_edit.specs.declared.answers.EditAnswer.{EditAnswer}
use Rattle.pv_edit.specs.declared.answers.EditAnswer.TheVariants as answer
use Rattle.pv_edit.specs.declared.reasons.EditError.{EditError}
use Rattle.pv_edit.specs.declared.reasons.EditError.TheVariants.{Shape, NoMemory}

-- the error tells the reason; want of memory tells nothing
abbrev pub IsRefusal : Option Reason → EditError → Type 0
IsRefusal reason (Shape r) = reason ≡ Some r
IsRefusal reason NoMemory = Unit {0}

-- the error tells why an edit gives nothing
abbrev pub IsRefused : {M : Type 0} → Outcome M → EditError → Type 0
IsRefused given (Shape r) = given ≡ refuses r
IsRefused given NoMemory = Unit {0}

-- the outcome is a document
abbrev pub IsGiven : {M : Type 0} → Outcome M → Type 0
IsGiven {M = M} given = (doc : PlainDoc M) × (given ≡ gives doc)

-- what is answered to an edit that can't be made
abbrev pub refusal_of : EditError → EditAnswer
refusal_of (Shape r) = answer.Shape r
refusal_of NoMemory = answer.NoMemory
