-- Counts of the lists that are judged after a stage, and after another before it.
use Rattle.std.proofs.Common.{◌≡◌, inl, inr, ℕ, ◌+◌, Result, Ok, Err, refl, subst}
use Rattle.pv_opening.specs.Course.{RunEnding}
use Rattle.pv_opening.specs.JudgedCounts.{CountsJudged, CountsNoMore, CountsOpening, EndsWithin}
use Rattle.pv_opening.specs.JudgedCounts.{at_fault, at_refusal, judges_all, judges_none}
use Rattle.pv_opening.specs.JudgedCounts.{without_memory}
use Rattle.pv_opening.specs.Response.{plain_response}
use Rattle.pv_opening.specs.Returns.{StopsBy, ending_of}
use Rattle.pv_opening.specs.Stage.{Stage, beside, followed_by}
use Rattle.pv_opening.specs.declared.stop.Stop.{Stop}
use Rattle.pv_opening.specs.declared.stop.Stop.TheVariants.{Refused, ShelfFault, NoMemory}

-- a run that a stop ended within a stage
pub stops_within : {X : Type 0} (stage : Stage X) (n : ℕ) (stop : Stop) → StopsBy stage n stop → EndsWithin stage (ending_of (Err stop))
stops_within stage n (Refused r) stops = at_refusal (plain_response r) n stops refl
stops_within stage n ShelfFault stops = at_fault n stops refl
stops_within stage n NoMemory stops = without_memory refl

pub ends_first : {X Y : Type 0} (first : Stage X) (second : X → Stage Y) (ending : RunEnding) → EndsWithin first ending → EndsWithin (followed_by first second) ending
ends_first first second ending (at_refusal r k refuses is) = at_refusal r k (inl refuses) is
ends_first first second ending (at_fault k faults is) = at_fault k (inl faults) is
ends_first first second ending (without_memory is) = without_memory is

pub ends_second : {X Y : Type 0} (first : Stage X) (second : X → Stage Y) (x : X) (k : ℕ)
    (ending : RunEnding) → first.Opens x k → EndsWithin (second x) ending →
    EndsWithin (followed_by first second) ending
ends_second first second x k ending opens (at_refusal r m refuses is) = at_refusal r (k + m) (inr (x, k, m, opens, refuses, refl)) is
ends_second first second x k ending opens (at_fault m faults is) = at_fault (k + m) (inr (x, k, m, opens, faults, refl)) is
ends_second first second x k ending opens (without_memory is) = without_memory is

pub ends_beside : {X Y : Type 0} (x : X) (stage : Stage Y) (ending : RunEnding) → EndsWithin stage ending → EndsWithin (beside x stage) ending
ends_beside x stage ending (at_refusal r k refuses is) = at_refusal r k refuses is
ends_beside x stage ending (at_fault k faults is) = at_fault k faults is
ends_beside x stage ending (without_memory is) = without_memory is

-- where the first stage stopped the run, nothing was counted
pub stops_first : {X Y : Type 0} (first : Stage X) (second : X → Stage Y) (lists : Y → ℕ) (GoesOn : ℕ → ℕ → Type 0) (n : ℕ) (stop : Stop) (before after : ℕ) → StopsBy first n stop → after ≡ before →
    CountsJudged (followed_by first second) lists GoesOn (ending_of (Err stop)) before after
stops_first first second lists GoesOn n stop before after stops same = judges_none (ends_first first second (ending_of (Err stop)) (stops_within first n stop stops)) same

-- a count after the second of two stages is one after both
pub judged_second : {X Y : Type 0} (first : Stage X) (second : X → Stage Y) (lists : Y → ℕ) (GoesOn : ℕ → ℕ → Type 0) (x : X) (k : ℕ) (ending : RunEnding) (before after : ℕ) → first.Opens x k →
    CountsJudged (second x) lists GoesOn ending before after → CountsJudged (followed_by first second) lists GoesOn ending before after
judged_second first second lists GoesOn x k ending before after opens (judges_none within same) = judges_none (ends_second first second x k ending opens within) same
judged_second first second lists GoesOn x k ending before after opens (judges_all y m other more) = judges_all y (k + m) (x, k, m, opens, other, refl) more

pub judged_beside : {X Y : Type 0} (x : X) (stage : Stage Y) (lists : X × Y → ℕ) (GoesOn : ℕ → ℕ → Type 0) (ending : RunEnding) (before after : ℕ) →
    CountsJudged stage (λ y. lists (x, y)) GoesOn ending before after → CountsJudged (beside x stage) lists GoesOn ending before after
judged_beside x stage lists GoesOn ending before after (judges_none within same) = judges_none (ends_beside x stage ending within) same
judged_beside x stage lists GoesOn ending before after (judges_all y k opens more) = judges_all (x, y) k (refl, opens) more

-- and so are counts of what is opened
pub opening_first : {X Y : Type 0} (Z : Type 0) (first : Stage X) (second : X → Stage Y) (lists : Y → ℕ) (n : ℕ) (stop : Stop) (before after : ℕ) → StopsBy first n stop → after ≡ before →
    CountsOpening {Y = Z} (followed_by first second) lists before after (Err stop)
opening_first Z first second lists n stop before after stops same = stops_first first second lists CountsNoMore n stop before after stops same

pub opening_second : {X Y Z : Type 0} (first : Stage X) (second : X → Stage Y) (lists : Y → ℕ) (x : X) (k : ℕ) (before after : ℕ) (result : Result Z Stop) → first.Opens x k →
    CountsOpening (second x) lists before after result → CountsOpening (followed_by first second) lists before after result
opening_second first second lists x k before after (Ok z) opens (y, m, other, is) = (y, k + m, (x, k, m, opens, other, refl), is)
opening_second first second lists x k before after (Err stop) opens counts = judged_second first second lists CountsNoMore x k (ending_of (Err stop)) before after opens counts

pub opening_beside : {X Y Z : Type 0} (x : X) (stage : Stage Y) (lists : X × Y → ℕ) (before after : ℕ) (result : Result Z Stop) →
    CountsOpening stage (λ y. lists (x, y)) before after result → CountsOpening (beside x stage) lists before after result
opening_beside x stage lists before after (Ok z) (y, k, opens, is) = ((x, y), k, (refl, opens), is)
opening_beside x stage lists before after (Err stop) counts = judged_beside x stage lists CountsNoMore (ending_of (Err stop)) before after counts

-- the counter after what was opened, and then on
pub opened_goes : {X Y : Type 0} (judging : Stage X) (lists : X → ℕ) (GoesOn : ℕ → ℕ →
    Type 0) (ending : RunEnding) (before middle after : ℕ) (y : Y) →
    CountsOpening judging lists before middle (Ok y) →
    GoesOn middle after → CountsJudged judging lists GoesOn ending before after
opened_goes judging lists GoesOn ending before middle after y (x, k, opens, is) more = judges_all x k opens (subst (λ (n : ℕ). GoesOn n after) is more)
