use Rattle.std.proofs.Common.{◌≡◌, ◌⊎◌, inl, inr, ℕ, List, Ok, Err, refl, subst}
use Rattle.pv_chars.specs.Units.{TextMeans}
use Rattle.pv_chars.specs.declared.errors.TextError.{TextError}
use Rattle.pv_chars.specs.declared.errors.TextError.TheVariants.{NoMemory}
use Rattle.pv_opening.specs.Returns.{RefusesWith, StopsBy}
use Rattle.pv_commands.specs.Standoff.{IsTextRefusal, RefusesText, no_text, text_stage}
use Rattle.pv_opening.specs.declared.stop.Stop.{Stop}
use Rattle.pv_opening.proofs.Stages.{refused_as}
use Rattle.pv_commands.proofs.standoff.text_of.Goals as goal

-- a stop with the response to the text's first fault
refused : (bytes : List ℕ) (e : TextError) (stop : Stop) →
    (e ≡ NoMemory) ⊎ TextMeans bytes (Err e) → RefusesWith (IsTextRefusal e) stop →
    StopsBy (text_stage bytes) 0 stop
refused bytes e stop (inl none) told =
    refused_as (λ u. TextMeans bytes (Ok u)) (IsTextRefusal e) (RefusesText bytes) stop
    (λ r is. absurd (subst (λ (f : TextError). IsTextRefusal f r) none is)) told
refused bytes e stop (inr means) told =
    refused_as (λ u. TextMeans bytes (Ok u)) (IsTextRefusal e) (RefusesText bytes) stop
    (λ r is. no_text e means is) told

pub returns-in-Ok : goal.returns-in-Ok
returns-in-Ok c = (c.in-Ok.ensures, refl)

pub returns-in-Err : goal.returns-in-Err
returns-in-Err c =
    refused c.args.bytes.now c.in-Err.error c.refuse_text.result c.in-Err.ensures
    c.refuse_text.ensures
