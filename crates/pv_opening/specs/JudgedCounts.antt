-- How many lists a run judges, as the counter of its call counts them.
use Rattle.std.specs.Prelude.{◌≡◌, ℕ, ◌+◌, List, length, Result, Ok, Err}
use Rattle.pv_dtd.specs.Plain.{PlainDtd}
use Rattle.pv_tree.specs.Lists.{lists_of}
use Rattle.pv_opening.specs.Course.{RunEnding, no_memory, responds, shelf_fault}
use Rattle.pv_opening.specs.Documents.{PlainOpened, document_stage}
use Rattle.pv_opening.specs.Possibility.{width_stage}
use Rattle.pv_opening.specs.Response.{PlainResponse}
use Rattle.pv_opening.specs.Returns.{ending_of}
use Rattle.pv_opening.specs.Stage.{Stage, beside, followed_by}
use Rattle.pv_opening.specs.declared.stop.Stop.{Stop}

-- a run ended within a stage: with a refusal of it, at a fault of the shelf, or for want of memory
pub data EndsWithin {X : Type 0} (stage : Stage X) (ending : RunEnding) : Type 0 where
  at_refusal : (r : PlainResponse) (k : ℕ) → stage.Refuses r k → ending ≡ responds r →
      EndsWithin stage ending
  at_fault : (k : ℕ) → stage.Faults k → ending ≡ shelf_fault → EndsWithin stage ending
  without_memory : ending ≡ no_memory → EndsWithin stage ending

-- The counter before and after a run whose lists are judged after a stage: the run ended within
-- the stage and counted nothing; or the stage opened something, each list of it was counted once,
-- and then the counter went on so.
pub data CountsJudged {X : Type 0} (judging : Stage X) (lists : X → ℕ) (GoesOn : ℕ → ℕ → Type 0)
    (ending : RunEnding) (before after : ℕ) : Type 0 where
  judges_none : EndsWithin judging ending → after ≡ before →
      CountsJudged judging lists GoesOn ending before after
  judges_all : (x : X) (k : ℕ) → judging.Opens x k → GoesOn (before + lists x) after →
      CountsJudged judging lists GoesOn ending before after

-- the counter stays
abbrev pub CountsNoMore : ℕ → ℕ → Type 0
CountsNoMore before after = after ≡ before

-- the counter before and after what judges lists after a stage and returns something, or a stop
abbrev pub CountsOpening : {X Y : Type 0} → Stage X → (X → ℕ) → ℕ → ℕ → Result Y Stop → Type 0
CountsOpening {X} judging lists before after (Ok y) =
    (x : X) × (k : ℕ) × judging.Opens x k × (after ≡ before + lists x)
CountsOpening judging lists before after (Err stop) =
    CountsJudged judging lists CountsNoMore (ending_of (Err stop)) before after

-- reading a document, and testing the width of its lists, after which all of them are judged
abbrev pub judging_stage : List ℕ → PlainDtd → List ℕ → Stage (PlainOpened × Unit {0})
judging_stage root g bytes = followed_by (document_stage root g bytes)
    (λ opened. beside opened (width_stage opened.dtd opened.doc))

-- how many lists that document has
abbrev pub lists_judged : PlainOpened × Unit {0} → ℕ
lists_judged judged = length (lists_of judged.0.doc)
