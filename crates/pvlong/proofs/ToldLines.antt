-- What is told, as responses have it.
use Rattle.std.proofs.Common.{◌≡◌, ◌++◌, ℕ, Bool, List, Result, Ok, Err, IfOk, codes, decimal, false, refl, true}
use Rattle.pv_dtd.specs.Plain.{PlainDtd}
use Rattle.pv_long.specs.BoundAnswers.{IsCompletion, IsExact, IsWithinBounds}
use Rattle.pv_long.specs.declared.answers.Completion.{Completion}
use Rattle.pv_missing.specs.Completions.{HasCompletion}
use Rattle.pv_opening.specs.Response.{PlainResponse, plain_response, with_line}
use Rattle.pv_opening.specs.declared.response.Response.{Response}
use Rattle.pv_opening.specs.declared.status.Status.TheVariants.{Done}
use Rattle.pv_tree.specs.Plain.{PlainDoc}
use Rattle.pv_tree.specs.View.{view}
use Rattle.pv_tree.specs.declared.nodes.Mark.{Mark}
use Rattle.pv_opening.specs.Possibility.{TellsPossibility}
use Rattle.pv_opening.specs.Returns.{TellsBy}
use Rattle.pv_opening.specs.declared.stop.Stop.{Stop}
use Rattle.pv_opening.proofs.Stages.{stops_as}
use Rattle.pvlong.specs.ToldNumbers.{TellsDocument, TellsFor, TellsNumber, bounds_text, is_between}
use Rattle.pvlong.specs.ToldNumbers.{is_least, is_of_least, is_of_more}
use Rattle.pvlong.specs.declared.requests.Question.TheVariants.{Check, Need}

module _ (root bytes : List ℕ) (g : PlainDtd) (doc : PlainDoc Mark) where
  inserts : (c : Completion) → IsCompletion g root doc c → HasCompletion g root c.count (view doc.root)
  inserts c is = record {
    hedge = view is.completed.root;
    extends = is.completes.extends;
    valid = is.completes.valid;
    inserted = is.completes.inserted;
  }

  pub exact_line : {E : Type 0} (c : Completion) (result : Result Response E) → IsExact g root doc bytes c → IfOk result (λ r. plain_response r ≡ with_line Done (codes "need " ++ decimal c.count)) →
      IfOk result (λ r. TellsNumber root g doc (plain_response r))
  exact_line c (Ok r) told is = is_least c.count told.least is
  exact_line c (Err e) told is = tt

  pub between_line : {E : Type 0} (least : ℕ) (c : Completion) (result : Result Response E) →
      IsWithinBounds g root doc least c → IfOk result (λ r. plain_response r ≡ with_line Done
      (bounds_text least c.count)) →
      IfOk result (λ r. TellsNumber root g doc (plain_response r))
  between_line least c (Ok r) told is = is_between least c.count told.less told.missing told.lists (inserts c told.completion) is
  between_line least c (Err e) told is = tt

  -- a verdict or a number is told, and no document
  pub checked_for : (result : Result Response Stop) → TellsBy (TellsPossibility root g doc) result →
      TellsBy (TellsFor Check root g doc bytes false) result
  checked_for (Ok r) tells = (tells, refl)
  checked_for (Err stop) tells =
      stops_as (TellsPossibility root g doc) (TellsFor Check root g doc bytes false) stop
      (λ r told. (told, refl)) tells

  pub number_for : (result : Result Response Stop) → TellsBy (TellsNumber root g doc) result →
      TellsBy (TellsFor Need root g doc bytes false) result
  number_for (Ok r) tells = (tells, refl)
  number_for (Err stop) tells =
      stops_as (TellsNumber root g doc) (TellsFor Need root g doc bytes false) stop
      (λ r told. (told, refl)) tells

  pub exact_document : (c : Completion) (not_least : Bool) (r : PlainResponse) → IsExact g root doc bytes c → not_least ≡ false → r ≡ record { status = Done; output = c.body.items } →
      TellsDocument root g doc bytes not_least r
  exact_document c not_least r told least is = is_of_least c.count c.marks.items c.body.items told.completion told.least told.keeps_valid least is

  pub between_document : (least : ℕ) (c : Completion) (not_least : Bool) (r : PlainResponse) → IsWithinBounds g root doc least c → not_least ≡ true →
      r ≡ record { status = Done; output = c.body.items } → TellsDocument root g doc bytes not_least r
  between_document least c not_least r told more is = is_of_more least c.count c.marks.items c.body.items told.less told.missing told.lists told.completion more is
