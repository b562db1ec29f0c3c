use Rattle.std.proofs.Common.{◌≡◌, ◌⊎◌, inl, inr, ℕ, List, Ok, Err, refl, subst}
use Rattle.pv_standoff.specs.Lines.{RangesMean}
use Rattle.pv_standoff.specs.declared.errors.RangesError.{RangesError}
use Rattle.pv_standoff.specs.declared.errors.RangesError.TheVariants.{NoMemory}
use Rattle.pv_opening.specs.Returns.{RefusesWith, StopsBy}
use Rattle.pv_commands.specs.Standoff.{IsRangesRefusal, RefusesRanges, no_ranges, ranges_stage}
use Rattle.pv_opening.specs.declared.stop.Stop.{Stop}
use Rattle.pv_opening.proofs.Stages.{refused_as}
use Rattle.pv_commands.proofs.standoff.ranges_of.Goals as goal

-- a stop with the response to the first line that is none
refused : (bytes : List ℕ) (e : RangesError) (stop : Stop) →
    (e ≡ NoMemory) ⊎ RangesMean bytes (Err e) → RefusesWith (IsRangesRefusal e) stop →
    StopsBy (ranges_stage bytes) 0 stop
refused bytes e stop (inl none) told =
    refused_as (λ u. RangesMean bytes (Ok u)) (IsRangesRefusal e) (RefusesRanges bytes) stop
    (λ r is. absurd (subst (λ (f : RangesError). IsRangesRefusal f r) none is)) told
refused bytes e stop (inr means) told =
    refused_as (λ u. RangesMean bytes (Ok u)) (IsRangesRefusal e) (RefusesRanges bytes) stop
    (λ r is. no_ranges e means is) told

pub returns-in-Ok : goal.returns-in-Ok
returns-in-Ok c = (c.in-Ok.ensures.read, refl)

pub returns-in-Err : goal.returns-in-Err
returns-in-Err c =
    refused c.args.bytes.now c.in-Err.error c.refuse_ranges.result c.in-Err.ensures.read
    c.refuse_ranges.ensures
