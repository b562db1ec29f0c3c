-- Where nothing failed, the defined response was written.
use Rattle.std.proofs.Common.{◌≡◌, ◌⊎◌, inl, inr, ℕ, Option, List, [], refl}
use Rattle.std.specs.Io.KnownBytes.{Appends}
use Rattle.pv_io.specs.Causes.{Rose}
use Rattle.pv_opening.specs.declared.status.Status.{Status}
use Rattle.pv_opening.specs.declared.status.Status.TheVariants.{NoMemory}
use Rattle.pv_cli.specs.CommandLine.{PlainCommandLine}
use Rattle.pv_opening.specs.Course.{RunEnding, responds, shelf_fault, input_fault, output_fault}
use Rattle.pv_opening.specs.Course.{no_memory}
use Rattle.pv_cli.specs.Headline.{HadNoMemory}
use Rattle.pv_cli.specs.Laws.{AnswersWithoutFault, Answered}
use Rattle.pv_opening.specs.Devices.{Devices}
use Rattle.pv_opening.specs.ShownCourses.{CountsShelf, CountsInput, WritesEnding, wrote, cut_off}
use Rattle.pv_cli.specs.Program.{Runs}
use Rattle.pv_opening.specs.Response.{PlainResponse}

-- the parts of `HadNoMemory` that speak of the output alone
abbrev pub EndsUnwritten : Option (List ℕ) → Option (List ℕ) → Status → Type 0
EndsUnwritten old new status = (status ≡ NoMemory) × Appends old new []

-- the parts of `Answered` that speak of the ending alone
abbrev pub EndsWell : RunEnding → Option (List ℕ) → Option (List ℕ) → Status → Type 0
EndsWell ending old new status =
    (r : PlainResponse) × (ending ≡ responds r) × (status ≡ r.status) × Appends old new r.output

ends_well : (ending : RunEnding) (shelf_old shelf_new input_old input_new old_count new_count : ℕ)
    (old new : Option (List ℕ)) (status : Status) →
    CountsShelf ending shelf_old shelf_new → CountsInput ending input_old input_new →
    WritesEnding ending old new old_count new_count status →
    (Rose shelf_old shelf_new → ⊥) → (Rose input_old input_new → ⊥) →
    (Rose old_count new_count → ⊥) → EndsUnwritten old new status ⊎ EndsWell ending old new status
ends_well ending so sn io in_ oc nc old new status shelf input (cut_off out cuts fault front rose)
    no_shelf no_input no_output = absurd (no_output rose)
ends_well (responds r) so sn io in_ oc nc old new status shelf input (wrote whole is written stays)
    no_shelf no_input no_output = inr (r, refl, is, written)
ends_well shelf_fault so sn io in_ oc nc old new status shelf input (wrote whole is written stays)
    no_shelf no_input no_output = absurd (no_shelf shelf)
ends_well (input_fault out) so sn io in_ oc nc old new status shelf input
    (wrote whole is written stays) no_shelf no_input no_output = absurd (no_input input)
ends_well (output_fault out) so sn io in_ oc nc old new status shelf input
    (wrote whole is written stays) no_shelf no_input no_output = cc
ends_well no_memory so sn io in_ oc nc old new status shelf input (wrote whole is written stays)
    no_shelf no_input no_output = inl (is, written)

answered : {S : Type 0} (line : Option PlainCommandLine) (before after : Devices S)
    (status : Status) (run : Runs line before after status) →
    EndsUnwritten before.output.written after.output.written status ⊎ EndsWell run.course.ending
    before.output.written after.output.written status →
    HadNoMemory before after status ⊎ Answered run
answered line before after status run (inl none) =
    inl (record { is_status = none.0; unwritten = none.1 })
answered line before after status run (inr ends) =
    inr (record { response = ends.0; is_response = ends.1; is_status = ends.2; written = ends.3 })

pub complete : (S : Type 0) → AnswersWithoutFault S
complete S line before after status run no_shelf no_input no_output =
    answered line before after status run
    (ends_well run.course.ending _ _ _ _ _ _ _ _ status run.shelf.faults run.streams.input
    run.streams.output no_shelf no_input no_output)
