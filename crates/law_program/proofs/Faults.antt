-- A count that rose shows in the status.
use Rattle.std.proofs.Common.{◌≡◌, ℕ, Option, List}
use Rattle.pv_io.specs.Causes.{CountStays}
use Rattle.pv_opening.specs.declared.status.Status.{Status}
use Rattle.pv_opening.specs.declared.status.Status.TheVariants.{ReadFault, WriteFault}
use Rattle.pv_opening.specs.Course.{RunEnding, responds, shelf_fault, input_fault, output_fault}
use Rattle.pv_opening.specs.Course.{no_memory}
use Rattle.law_program.specs.Laws.{FaultsShow}
use Rattle.pv_opening.specs.ShownCourses.{CountsShelf, CountsInput, WritesEnding, wrote, cut_off}

output_stays : (ending : RunEnding) (old new : Option (List ℕ)) (before after : ℕ)
    (status : Status) → WritesEnding ending old new before after status →
    (status ≡ WriteFault → ⊥) → CountStays before after
output_stays ending old new before after status (wrote whole is written stays) not = stays
output_stays ending old new before after status (cut_off out cuts fault front rose) not =
    absurd (not fault)

shelf_stays : (ending : RunEnding) (old new : Option (List ℕ)) (first last before after : ℕ)
    (status : Status) → WritesEnding ending old new first last status →
    CountsShelf ending before after → (status ≡ ReadFault → ⊥) → CountStays before after
shelf_stays (responds r) old new first last before after status writes counts not = counts
shelf_stays shelf_fault old new first last before after status (wrote whole is written stays) counts
    not = absurd (not is)
shelf_stays shelf_fault old new first last before after status (cut_off out cuts fault front rose)
    counts not = absurd cuts
shelf_stays (input_fault out) old new first last before after status writes counts not = counts
shelf_stays (output_fault out) old new first last before after status writes counts not = counts
shelf_stays no_memory old new first last before after status writes counts not = counts

input_stays : (ending : RunEnding) (old new : Option (List ℕ)) (first last before after : ℕ)
    (status : Status) → WritesEnding ending old new first last status →
    CountsInput ending before after → (status ≡ ReadFault → ⊥) → CountStays before after
input_stays (responds r) old new first last before after status writes counts not = counts
input_stays shelf_fault old new first last before after status writes counts not = counts
input_stays (input_fault out) old new first last before after status (wrote whole is written stays)
    counts not = absurd (not is)
input_stays (input_fault out) old new first last before after status
    (cut_off all cuts fault front rose) counts not = absurd cuts
input_stays (output_fault out) old new first last before after status writes counts not = counts
input_stays no_memory old new first last before after status writes counts not = counts

pub faults_show : (S : Type 0) → FaultsShow S
faults_show S line before after status run = record {
  output = output_stays run.course.ending _ _ _ _ status run.streams.output;
  shelf = shelf_stays run.course.ending _ _ _ _ _ _ status run.streams.output run.shelf.faults;
  input = input_stays run.course.ending _ _ _ _ _ _ status run.streams.output run.streams.input;
}
