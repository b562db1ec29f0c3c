use Rattle.std.proofs.Common.{◌≡◌, ◌⊎◌, inl, inr, ℕ, List, Ok, Err, refl, subst}
use Rattle.pv_standoff.specs.NestOutcomes.{NestMeans}
use Rattle.pv_standoff.specs.declared.errors.NestError.{NestError}
use Rattle.pv_standoff.specs.declared.errors.NestError.TheVariants.{NoMemory}
use Rattle.pv_standoff.specs.declared.ranges.Range.{Range}
use Rattle.pv_opening.specs.Returns.{RefusesWith, StopsBy}
use Rattle.pv_commands.specs.Standoff.{IsNestRefusal, RefusesNesting, nesting_stage, no_document}
use Rattle.pv_opening.specs.declared.stop.Stop.{Stop}
use Rattle.pv_opening.proofs.Stages.{refusal_stops, stops_as}
use Rattle.pv_commands.proofs.standoff.nest_ranges.Goals as goal

-- a stop with the response where no document stands for them
refused : (root : List ℕ) (text : List (List ℕ)) (ranges : List Range) (e : NestError)
    (stop : Stop) → (e ≡ NoMemory) ⊎ NestMeans root text ranges (Err e) →
    RefusesWith (IsNestRefusal e) stop →
    StopsBy (nesting_stage root text ranges) 0 stop
refused root text ranges e stop (inl none) told =
    refusal_stops (λ d. NestMeans root text ranges (Ok d)) (RefusesNesting root text ranges) stop
    (stops_as (IsNestRefusal e) (RefusesNesting root text ranges) stop
    (λ r is. absurd (subst (λ (f : NestError). IsNestRefusal f r) none is)) told)
refused root text ranges e stop (inr means) told =
    refusal_stops (λ d. NestMeans root text ranges (Ok d)) (RefusesNesting root text ranges) stop
    (stops_as (IsNestRefusal e) (RefusesNesting root text ranges) stop
    (λ r is. no_document e means is) told)

pub returns-in-Ok : goal.returns-in-Ok
returns-in-Ok c = (c.in-Ok.ensures, refl)

pub returns-in-Err : goal.returns-in-Err
returns-in-Err c =
    refused c.args.root.now c.args.text.now c.args.ranges.now c.in-Err.error c.refuse_nesting.result
    c.in-Err.ensures c.refuse_nesting.ensures
