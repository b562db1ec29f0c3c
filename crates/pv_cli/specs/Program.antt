-- What a run of the program does.
use Rattle.std.specs.Prelude.{◌≡◌, ℕ, codes, Option, Some, None}
use Rattle.pv_opening.specs.declared.status.Status.{Status}
use Rattle.pv_opening.specs.declared.status.Status.TheVariants.{Usage}
use Rattle.pv_cli.specs.RunCounts.{CountsDrill, CountsVerb, judging_files_stage}
use Rattle.pv_cli.specs.CommandLine.{PlainCommandLine, drill, files_named, on_certificate}
use Rattle.pv_cli.specs.CommandLine.{on_document, on_dtd, on_ranges}
use Rattle.pv_cli.specs.Commands.{IsCheckerCourse, IsDocumentCourse}
use Rattle.pv_opening.specs.Course.{Course}
use Rattle.pv_opening.specs.Devices.{Devices}
use Rattle.pv_cli.specs.Drill.{IsDrillCourse}
use Rattle.pv_commands.specs.Dtd.{IsDtdCourse}
use Rattle.pv_opening.specs.JudgedCounts.{CountsNoMore}
use Rattle.pv_opening.specs.Opening.{AreFiles, Files}
use Rattle.pv_opening.specs.Response.{with_line}
use Rattle.pv_opening.specs.Stage.{Responds}
use Rattle.pv_commands.specs.Standoff.{CountsNested, IsStandoffCourse}
use Rattle.pv_opening.specs.ShownCourses.{ShowsShelf, ShowsStreams}

-- the courses that a command line may take over its files
abbrev pub IsDefined : Option PlainCommandLine → Files → Course → Type 0
IsDefined None files course = Responds (λ r. r ≡ with_line Usage (codes "usage")) course
IsDefined (Some (on_dtd dtd)) files course = IsDtdCourse files course
IsDefined (Some (on_document verb dtd root doc)) files course =
    IsDocumentCourse verb root files course
IsDefined (Some (on_certificate checker dtd root doc file)) files course =
    IsCheckerCourse checker root files course
IsDefined (Some (on_ranges dtd root text ranges)) files course = IsStandoffCourse root files course
IsDefined (Some (drill n)) files course = IsDrillCourse n course

-- How many lists a command line judges over its files on such a course, as the counter counts them:
-- each list of its document once, where they are judged, and what the lines of a session or a drill
-- judge after that. What only tells how many elements are missing counts nothing.
abbrev pub ChecksLists : Option PlainCommandLine → Files → Course → ℕ → ℕ → Type 0
ChecksLists None files course before after = CountsNoMore before after
ChecksLists (Some (on_dtd dtd)) files course before after = CountsNoMore before after
ChecksLists (Some (on_document verb dtd root doc)) files course before after =
    CountsVerb verb (judging_files_stage root files) course before after
ChecksLists (Some (on_certificate checker dtd root doc file)) files course before after =
    CountsNoMore before after
ChecksLists (Some (on_ranges dtd root text ranges)) files course before after =
    CountsNested root files course before after
ChecksLists (Some (drill n)) files course before after = CountsDrill n course.ending before after

-- What a run does: there are files, those that the shelf tells where it tells them, and a course
-- that is defined for the command line over these files, which the devices and the status show; and
-- the counter tells how many lists were judged.
pub record Runs {S : Type 0} (line : Option PlainCommandLine) (before after : Devices S)
    (status : Status) : Type 0 where
  pub files : Files
  pub are_files : AreFiles before.shelf.files (files_named line) files
  pub course : Course
  pub is_defined : IsDefined line files course
  pub shelf : ShowsShelf course before.shelf after.shelf
  pub streams : ShowsStreams course before.input after.input before.output after.output status
  pub checks : ChecksLists line files course before.checked after.checked
