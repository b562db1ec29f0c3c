-- The answer to an edit, from its first reason.
use Rattle.std.proofs.Common.{◌≡◌, Option, None, ap, Result, Ok, Err}
use Rattle.std.specs.Prelude.{MatchResult}
use Rattle.pv_tree.specs.Plain.{PlainDoc}
use Rattle.pv_edit.specs.Reasons.{outcome}
use Rattle.pv_edit.specs.Refusals.{IsGiven, IsRefusal, IsRefused}
use Rattle.pv_edit.specs.declared.reasons.Reason.{Reason}
use Rattle.pv_edit.specs.declared.reasons.EditError.{EditError}
use Rattle.pv_edit.specs.declared.reasons.EditError.TheVariants.{Shape, NoMemory}

pub refused_by : {M : Type 0} (reason : Option Reason) (doc : PlainDoc M) (e : EditError) → IsRefusal reason e → IsRefused (outcome reason doc) e
refused_by reason doc (Shape r) h = ap (λ o. outcome o doc) h
refused_by reason doc NoMemory h = tt

pub answered : {A M : Type 0} (r : Result A EditError) (reason : Option Reason) (doc : PlainDoc M) →
    MatchResult r (λ _. reason ≡ None) (IsRefusal reason) →
    MatchResult r (λ _. IsGiven (outcome reason doc)) (IsRefused (outcome reason doc))
answered (Ok x) reason doc h = (doc, ap (λ o. outcome o doc) h)
answered (Err e) reason doc h = refused_by reason doc e h
