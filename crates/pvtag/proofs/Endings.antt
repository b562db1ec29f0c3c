-- A run, apart from what its input is.
use Rattle.std.proofs.Common.{ℕ, List, Option, Some, None, refl}
use Rattle.pv_cli.specs.CommandLine.{PlainCommandLine}
use Rattle.pv_opening.specs.Devices.{Devices, InputNow}
use Rattle.pv_cli.specs.Program.{Runs}
use Rattle.pv_opening.specs.ShownCourses.{TakesInput}
use Rattle.pv_opening.specs.declared.status.Status.{Status}
use Rattle.pvtag.specs.Here.{all_told_of, told_of}

taken_so : {S : Type 0} (taken : Option (List ℕ)) (before after : InputNow S) → TakesInput taken before after → TakesInput taken (told_of before) (told_of after)
taken_so None before after takes = refl
taken_so (Some bytes) before after takes = takes

pub runs_so : {S : Type 0} (line : Option PlainCommandLine) (before after : Devices S) (status : Status) → Runs line before after status → Runs line (all_told_of before) (all_told_of after) status
runs_so line before after status run = record {
  files = run.files;
  are_files = run.are_files;
  course = run.course;
  is_defined = run.is_defined;
  shelf = run.shelf;
  streams = record {
    input = run.streams.input;
    taken = taken_so run.course.taken before.input after.input run.streams.taken;
    asked = run.streams.asked;
    at_end = run.streams.at_end;
    output = run.streams.output;
  };
  checks = run.checks;
}
