-- What the program does over the machine's files and streams, which tell nothing of their bytes.
use Rattle.std.specs.Prelude.{◌≡◌, ℕ, List}
use Rattle.pv_io.specs.Causes.{never_asked}
use Rattle.pv_many.specs.Archives.{untold}
use Rattle.pv_many.specs.Many.{AnswersMany}
use Rattle.pv_opening.specs.Devices.{InputNow, OutputNow, ShelfNow, input_at}
use Rattle.pv_opening.specs.declared.status.Status.{Status}

-- an input, apart from what it is
abbrev pub input_told : {S : Type 0} → InputNow S → InputNow (Unit {0})
input_told input = input_at tt input.left input.calls input.faults

-- An answer over devices that were neither asked nor failed before, where shelf and archive tell no
-- file: it ends so that their counts show it.
pub record AnswersManyHere (words : List (List ℕ)) (status : Status) : Type 0 where
  pub shelf : ShelfNow
  pub shelf_now : ShelfNow
  pub archive : ShelfNow
  pub archive_now : ShelfNow
  pub input : InputNow (Unit {0})
  pub input_now : InputNow (Unit {0})
  pub output : OutputNow
  pub output_now : OutputNow
  pub shelf_untold : shelf ≡ untold
  pub archive_untold : archive ≡ untold
  pub input_calls : input.calls ≡ never_asked
  pub input_faults : input.faults ≡ 0
  pub output_faults : output.faults ≡ 0
  pub answers : AnswersMany words shelf shelf_now archive archive_now input input_now output
      output_now status
