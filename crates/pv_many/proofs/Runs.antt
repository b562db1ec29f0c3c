-- A request as a whole: its DTD, and what comes after it.
use Rattle.std.proofs.Common.{ℕ, List, [], ◌∷◌, Some, None, Result, Ok, Err, refl, arith}
use Rattle.pv_dtd.specs.PlainForms.{plain_dtd}
use Rattle.pv_dtd.specs.declared.dtd.Dtd.{Dtd}
use Rattle.pv_opening.specs.Course.{after_fetches, without_input}
use Rattle.pv_opening.specs.Devices.{InputNow, OutputNow, ShelfNow}
use Rattle.pv_opening.specs.Opening.{IsFile, dtd_file_stage}
use Rattle.pv_opening.specs.Returns.{ReturnsOver, TakesCourse, ending_of}
use Rattle.pv_opening.specs.ShownCourses.{CountsInput, CountsShelf, ShowsStreams, WritesEnding}
use Rattle.pv_opening.specs.Stage.{opened}
use Rattle.pv_opening.specs.declared.response.Response.{Response}
use Rattle.pv_opening.specs.declared.status.Status.{Status}
use Rattle.pv_opening.specs.declared.stop.Stop.{Stop}
use Rattle.pv_opening.specs.declared.stop.Stop.TheVariants.{Refused, ShelfFault, NoMemory}
use Rattle.pv_opening.proofs.Stages.{finds_goes, finds_stays, stays_from, stop_counts, stop_ends}
use Rattle.pv_many.specs.Many.{AnswersAsked, AnswersInput, AnswersOver, IsManyCourse}
use Rattle.pv_many.specs.Requests.{request}
use Rattle.pv_many.specs.declared.requests.Question.{Question}
use Rattle.pv_many.proofs.NamedAnswers.{as_commands}

input_stays : (result : Result Response Stop) (count : ℕ) → CountsInput (ending_of result) count count
input_stays (Ok r) count = refl
input_stays (Err (Refused r)) count = refl
input_stays (Err ShelfFault) count = refl
input_stays (Err NoMemory) count = refl

-- what returned, and left the input alone
unread_streams : {S : Type 0} (fetches : ℕ) (result : Result Response Stop) (input : InputNow S) (old new : OutputNow) (status : Status) →
    WritesEnding (ending_of result) old.written new.written old.faults new.faults status →
    ShowsStreams (without_input fetches (ending_of result)) input input old new status
unread_streams fetches result input old new status writes = record {
  input = input_stays result input.faults;
  taken = refl;
  asked = refl;
  at_end = λ is. tt;
  output = writes;
}

module _ {S : Type 0} (question : Question) (name root : List ℕ) (before after : ShelfNow) where
  -- its DTD stopped it
  pub dtd_stopped : (stop : Stop) (archive : ShelfNow) (input : InputNow S) (old new : OutputNow) (status : Status) →
      ReturnsOver {X = Dtd} (IsFile before.files name) plain_dtd dtd_file_stage before after (Err stop) →
      WritesEnding (ending_of (Err stop)) old.written new.written old.faults new.faults status →
      AnswersAsked (Some (request question name root)) before after archive archive input input old new status
  dtd_stopped stop archive input old new status over writes = record {
    files = over.files ∷ [];
    are_files = (over.are_such, tt);
    answers = [];
    are_answers = tt;
    course = without_input over.fetches (ending_of (Err stop));
    is_defined = stop_ends (dtd_file_stage over.files) (λ _. AnswersInput []) over.fetches stop over.returns;
    unread = λ none. refl;
    shelf_shows = record { calls = over.calls; faults = stop_counts before.faults after.faults stop over.faults };
    archive_shows = refl;
    streams = unread_streams over.fetches (Err stop) input old new status writes;
  }

  -- it was opened, and the names were answered
  pub dtd_opened : (dtd : Dtd) (archive archive_now : ShelfNow) (input input_now : InputNow S) (old new : OutputNow) (status : Status) →
      ReturnsOver (IsFile before.files name) plain_dtd dtd_file_stage before after (Ok dtd) →
      AnswersOver question root (plain_dtd dtd) archive archive_now input input_now old new status →
      AnswersAsked (Some (request question name root)) before after archive archive_now input input_now old new status
  dtd_opened dtd archive archive_now input input_now old new status over rest =
      let none = rest.no_fetch in
      record {
        files = over.files ∷ [];
        are_files = (over.are_such, tt);
        answers = rest.answers;
        are_answers = as_commands question root (plain_dtd dtd) over.files over.fetches archive.files rest.answers over.returns rest.answered;
        course = after_fetches over.fetches rest.course;
        is_defined = opened (plain_dtd dtd) over.fetches rest.course over.returns rest.is_course refl;
        unread = rest.unread;
        shelf_shows = record {
          calls = let calls = over.calls in omega (arith, none);
          faults = stays_from (CountsShelf rest.course.ending) before.faults after.faults over.faults rest.no_fault;
        };
        archive_shows = rest.archive_shows;
        streams = record {
          input = rest.streams.input;
          taken = rest.streams.taken;
          asked = rest.streams.asked;
          at_end = rest.streams.at_end;
          output = rest.streams.output;
        };
      }

-- words that are no request ask nothing
pub none_asked : {S : Type 0} (shelf archive : ShelfNow) (input : InputNow S) (old new : OutputNow) (result : Result Response Stop) (status : Status) →
    TakesCourse (IsManyCourse None [] []) result → WritesEnding (ending_of result) old.written new.written old.faults new.faults status →
    AnswersAsked None shelf shelf archive archive input input old new status
none_asked shelf archive input old new result status finds writes = record {
  files = [];
  are_files = tt;
  answers = [];
  are_answers = tt;
  course = without_input 0 (ending_of result);
  is_defined = finds_goes (IsManyCourse None [] []) result finds;
  unread = λ none. refl;
  shelf_shows = record { calls = omega arith; faults = finds_stays (IsManyCourse None [] []) result finds shelf.faults };
  archive_shows = refl;
  streams = unread_streams 0 result input old new status writes;
}
