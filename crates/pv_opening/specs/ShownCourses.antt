-- How a course shows in the devices of its run.
use Rattle.std.specs.Prelude.{◌≡◌, ◌≤◌, ◌+◌, ℕ, Bool, true, false, List, [], length}
use Rattle.std.specs.Prelude.{Option, Some, None}
use Rattle.std.specs.Io.KnownBytes.{Appends, Consumes, IsAtEnd}
use Rattle.pv_io.specs.Causes.{AppendsFront, Asked, CountStays, MadeCalls, Rose}
use Rattle.pv_opening.specs.declared.status.Status.{Status}
use Rattle.pv_opening.specs.declared.status.Status.TheVariants.{ReadFault, WriteFault}
use Rattle.pv_opening.specs.declared.status.Status.TheVariants.{NoMemory as OutOfMemory}
use Rattle.pv_opening.specs.Course.{RunEnding, responds, shelf_fault, input_fault, output_fault}
use Rattle.pv_opening.specs.Course.{no_memory, Course}
use Rattle.pv_opening.specs.Devices.{InputNow, OutputNow, ShelfNow}

-- the count of a device rose where the run ended at a fault of it, and else it stayed
abbrev pub CountsShelf : RunEnding → ℕ → ℕ → Type 0
CountsShelf shelf_fault before after = Rose before after
CountsShelf _ before after = CountStays before after

abbrev pub CountsInput : RunEnding → ℕ → ℕ → Type 0
CountsInput (input_fault out) before after = Rose before after
CountsInput _ before after = CountStays before after

-- these bytes were taken from the input, or it stayed as it was
abbrev pub TakesInput : {S : Type 0} → Option (List ℕ) → InputNow S → InputNow S → Type 0
TakesInput None before after = after.source ≡ before.source
TakesInput (Some bytes) before after = Consumes before.left after.left bytes

-- at most so many calls were made
abbrev pub MadeAtMost : ℕ → ℕ → ℕ → Type 0
MadeAtMost most before after = (count : ℕ) × (count ≤ most) × MadeCalls count before after

-- it was asked so often at most, and so often at most it gave no byte
pub record AskedAtMost (calls empty : ℕ) (before after : Asked) : Type 0 where
  pub all : MadeAtMost calls before.calls after.calls
  pub none_given : MadeAtMost empty before.empty after.empty

-- The input was asked at most once for each byte that came, and once more; and at most one call
-- gave no byte, so that it isn't asked again after its end, or after a fault of it.
abbrev pub AsksInput : Option (List ℕ) → Asked → Asked → Type 0
AsksInput None before after = after ≡ before
AsksInput (Some bytes) before after = AskedAtMost (length bytes + 1) 1 before after

-- where bytes were taken from the input, nothing is left of it
abbrev pub ReadsAll : Option (List ℕ) → Option (List ℕ) → Type 0
ReadsAll None left = Unit {0}
ReadsAll (Some bytes) left = IsAtEnd left

abbrev pub status_of : RunEnding → Status
status_of (responds r) = r.status
status_of (output_fault out) = WriteFault
status_of no_memory = OutOfMemory
status_of _ = ReadFault

abbrev pub output_of : RunEnding → List ℕ
output_of (responds r) = r.output
output_of (input_fault out) = out
output_of (output_fault out) = out
output_of _ = []

-- what is cut off where writing fails
abbrev pub IsCutOff : RunEnding → List ℕ → Type 0
IsCutOff (responds r) out = out ≡ r.output
IsCutOff (output_fault all) out = out ≡ all
IsCutOff _ out = ⊥

abbrev pub is_output_fault : RunEnding → Bool
is_output_fault (output_fault out) = true
is_output_fault _ = false

-- The status of an ending, and what is written then. Where writing fails, a front of it is written.
pub data WritesEnding (ending : RunEnding) (old new : Option (List ℕ)) (before after : ℕ)
    (status : Status) : Type 0 where
  wrote : is_output_fault ending ≡ false → status ≡ status_of ending →
      Appends old new (output_of ending) → CountStays before after →
      WritesEnding ending old new before after status
  cut_off : (out : List ℕ) → IsCutOff ending out → status ≡ WriteFault → AppendsFront old new out →
      Rose before after →
      WritesEnding ending old new before after status

-- the shelf shows this course: it was asked for so many files, and failed where the course ends so
pub record ShowsShelf (course : Course) (before after : ShelfNow) : Type 0 where
  pub calls : MadeCalls course.fetches before.calls after.calls
  pub faults : CountsShelf course.ending before.faults after.faults

-- The input, the output and the status show this course. Nothing is left of an input whose end was
-- reached.
pub record ShowsStreams {S : Type 0} (course : Course) (before after : InputNow S)
    (old new : OutputNow) (status : Status) : Type 0 where
  pub input : CountsInput course.ending before.faults after.faults
  pub taken : TakesInput course.taken before after
  pub asked : AsksInput course.taken before.calls after.calls
  pub at_end : course.at_end ≡ true → ReadsAll course.taken after.left
  pub output : WritesEnding course.ending old.written new.written old.faults new.faults status
