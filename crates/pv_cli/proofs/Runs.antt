-- What a command did, as a run that its devices show.
use Rattle.std.proofs.Common.{◌≡◌, inl, inr, ℕ, List, [], ◌∷◌, Option, Some, Result, Ok, Err, refl}
use Rattle.std.proofs.Common.{arith}
use Rattle.pv_dtd.specs.Plain.{PlainDtd}
use Rattle.pv_opening.specs.declared.opening.Fetched.{Fetched}
use Rattle.pv_opening.specs.declared.response.Response.{Response}
use Rattle.pv_opening.specs.declared.status.Status.{Status}
use Rattle.pv_opening.specs.declared.stop.Stop.{Stop}
use Rattle.pv_opening.specs.declared.stop.Stop.TheVariants.{Refused, ShelfFault, NoMemory}
use Rattle.pv_cli.specs.declared.verb.Verb.{Verb}
use Rattle.pv_cli.specs.declared.verb.Verb.TheVariants.{Session}
use Rattle.pv_session.specs.Sessions.{PlainSession}
use Rattle.pv_cli.specs.RunCounts.{CountsVerb}
use Rattle.pv_conversation.specs.CountedLines.{CountsScript}
use Rattle.pv_cli.specs.CommandLine.{PlainCommandLine, files_named, on_document}
use Rattle.pv_cli.specs.Commands.{GoesOn, VerbTells}
use Rattle.pv_conversation.specs.Conversation.{Talked}
use Rattle.pv_opening.specs.Course.{Course, after_fetches, responds, without_input}
use Rattle.pv_opening.specs.Devices.{InputNow, OutputNow, ShelfNow, devices}
use Rattle.pv_opening.specs.Documents.{PlainOpened, document_stage}
use Rattle.pv_opening.specs.JudgedCounts.{CountsOpening, judging_stage, lists_judged}
use Rattle.pv_opening.specs.Opening.{AreFiles, fetching_stage, opening_stage}
use Rattle.pv_cli.specs.Program.{ChecksLists, IsDefined, Runs}
use Rattle.pv_opening.specs.ShownCourses.{CountsInput, CountsShelf, ShowsStreams, WritesEnding}
use Rattle.pv_opening.specs.Response.{plain_response}
use Rattle.pv_cli.specs.Returns.{DoesRest, FindsResponse, session_stage}
use Rattle.pv_opening.specs.Returns.{TakesCourse, ReturnsOver, StopsBy, ending_of, plain_fetched}
use Rattle.pv_conversation.specs.Session.{guarding_stage}
use Rattle.pv_opening.specs.Stage.{opened, refused, short_of_memory}
use Rattle.pv_cli.proofs.CommandCounts.{verb_counts, verb_stopped}
use Rattle.pv_opening.proofs.JudgedLists.{opened_goes}
use Rattle.pv_opening.proofs.Stages.{behind_second, finds_goes, finds_stays, stays_from, stop_counts}
use Rattle.pv_opening.proofs.Stages.{stop_ends, stopped_first}

-- what didn't ask the input left its count
input_stays : (result : Result Response Stop) (count : ℕ) →
    CountsInput (ending_of result) count count
input_stays (Ok r) count = refl
input_stays (Err (Refused r)) count = refl
input_stays (Err ShelfFault) count = refl
input_stays (Err NoMemory) count = refl

-- the streams of a run that leaves the input alone, once its response is written
quiet_streams : {S : Type 0} (n : ℕ) (result : Result Response Stop) (input : InputNow S)
    (old new : OutputNow) (status : Status) →
    WritesEnding (ending_of result) old.written new.written old.faults new.faults status →
    ShowsStreams (without_input n (ending_of result)) input input old new status
quiet_streams n result input old new status writes = record {
  input = input_stays result input.faults;
  taken = refl;
  asked = refl;
  at_end = λ is. tt;
  output = writes;
}

pub found_runs : {S : Type 0} (line : Option PlainCommandLine) (before after : ShelfNow)
    (input : InputNow S) (old new : OutputNow) (checked checked_now : ℕ)
    (result : Result Response Stop) (status : Status) →
    FindsResponse line before after checked checked_now result →
    WritesEnding (ending_of result) old.written new.written old.faults new.faults status →
    Runs line (devices before input old checked) (devices after input new checked_now) status
found_runs line before after input old new checked checked_now result status finds writes = record {
  files = finds.files;
  are_files = finds.are_files;
  course = without_input finds.fetches (ending_of result);
  is_defined = finds.takes;
  shelf = finds.shelf;
  streams = quiet_streams finds.fetches result input old new status writes;
  checks = finds.checks;
}

-- a command line that asks no shelf
pub found_alone : (line : Option PlainCommandLine) (shelf : ShelfNow) (checked checked_now : ℕ)
    (result : Result Response Stop) → AreFiles shelf.files (files_named line) [] →
    TakesCourse (IsDefined line []) result →
    ChecksLists line [] (without_input 0 (ending_of result)) checked checked_now →
    FindsResponse line shelf shelf checked checked_now result
found_alone line shelf checked checked_now result none finds checks = record {
  files = [];
  are_files = none;
  fetches = 0;
  takes = finds_goes (IsDefined line []) result finds;
  shelf = record {
    calls = omega arith;
    faults = finds_stays (IsDefined line []) result finds shelf.faults;
  };
  checks = checks;
}

-- what a verb found, once it is written
pub found_rest : {S : Type 0} (verb : Verb) (root : List ℕ) (fetched : PlainDtd × List ℕ)
    (input : InputNow S) (old new : OutputNow) (checked checked_now : ℕ)
    (result : Result Response Stop) (status : Status) →
    TakesCourse (GoesOn verb root fetched) result →
    CountsVerb verb (judging_stage root fetched.0 fetched.1) (without_input 0 (ending_of result))
    checked checked_now →
    WritesEnding (ending_of result) old.written new.written old.faults new.faults status →
    DoesRest verb root fetched input input old new checked checked_now status
found_rest verb root fetched input old new checked checked_now result status finds checks
    writes = record {
      talk = record {
        course = without_input 0 (ending_of result);
        goes = finds_goes (GoesOn verb root fetched) result finds;
        no_fetch = refl;
        no_fault = finds_stays (GoesOn verb root fetched) result finds;
        streams = quiet_streams 0 result input old new status writes;
      };
      checks = checks;
    }

-- a verb whose files stopped it
pub files_stopped : (verb : Verb) (dtd root doc : List ℕ) (before after : ShelfNow) (checked : ℕ)
    (stop : Stop) →
    ReturnsOver {X = Fetched} (AreFiles before.files (dtd ∷ doc ∷ [])) plain_fetched fetching_stage
    before after (Err stop) →
    FindsResponse (Some (on_document verb dtd root doc)) before after checked checked (Err stop)
files_stopped verb dtd root doc before after checked stop over = record {
  files = over.files;
  are_files = over.are_such;
  fetches = over.fetches;
  takes = stop_ends (opening_stage root over.files) (VerbTells verb root) over.fetches stop
      (stopped_first (fetching_stage over.files) (λ both. document_stage root both.0 both.1)
      over.fetches stop over.returns);
  shelf = record {
    calls = over.calls;
    faults = stop_counts before.faults after.faults stop over.faults;
  };
  checks = verb_stopped verb root over.files over.fetches stop checked over.returns;
}

streams_after : {S : Type 0} (n : ℕ) (course : Course) (input input_now : InputNow S)
    (old new : OutputNow) (status : Status) → ShowsStreams course input input_now old new status →
    ShowsStreams (after_fetches n course) input input_now old new status
streams_after n course input input_now old new status shows = record {
  input = shows.input;
  taken = shows.taken;
  asked = shows.asked;
  at_end = shows.at_end;
  output = shows.output;
}

-- a verb that did the rest
pub rest_runs : {S : Type 0} (verb : Verb) (dtd root doc : List ℕ) (before after : ShelfNow)
    (fetched : Fetched) (input input_now : InputNow S) (old new : OutputNow)
    (checked checked_now : ℕ) (status : Status) →
    ReturnsOver (AreFiles before.files (dtd ∷ doc ∷ [])) plain_fetched fetching_stage before after
    (Ok fetched) →
    DoesRest verb root (plain_fetched fetched) input input_now old new checked checked_now status →
    Runs (Some (on_document verb dtd root doc)) (devices before input old checked)
    (devices after input_now new checked_now) status
rest_runs verb dtd root doc before after fetched input input_now old new checked checked_now status
    over does =
    let both = plain_fetched fetched in
    let rest = does.talk.course in
    let no_fetch = does.talk.no_fetch in
    record {
      files = over.files;
      are_files = over.are_such;
      course = after_fetches over.fetches rest;
      is_defined = behind_second (fetching_stage over.files) (λ b. document_stage root b.0 b.1)
          (VerbTells verb root) both over.fetches rest over.returns does.talk.goes;
      shelf = record {
        calls = omega (arith, over.calls, no_fetch);
        faults = stays_from (CountsShelf rest.ending) before.faults after.faults over.faults
            does.talk.no_fault;
      };
      streams = streams_after over.fetches rest input input_now old new status does.talk.streams;
      checks = verb_counts verb root over.files both over.fetches rest checked checked_now
          over.returns does.checks;
    }

-- beginning a session asks no shelf
guarding_quiet : (root : List ℕ) (o : PlainOpened) (m : ℕ) →
    (guarding_stage root o.dtd o.doc).Faults m → ⊥
guarding_quiet root o m (inl never) = never
guarding_quiet root o m (inr (u, v, w, narrow, never, f)) = never

-- the stages of a session stopped
pub session_stopped : (root : List ℕ) (fetched : PlainDtd × List ℕ) (stop : Stop) →
    StopsBy (session_stage root fetched) 0 stop →
    TakesCourse (GoesOn Session root fetched) (Err stop)
session_stopped root fetched (Refused r) (inl refuses) = refused (plain_response r) 0 refuses refl
session_stopped root fetched (Refused r) (inr (o, k, m, opens, refuses, e)) =
    let none : m ≡ 0 = omega (arith, e) in
    opened o 0 (without_input 0 (responds (plain_response r))) (opens.0, refl)
    (refused (plain_response r) 0 (rw none at refuses) refl) refl
session_stopped root fetched ShelfFault (inl never) = never
session_stopped root fetched ShelfFault (inr (o, k, m, opens, faults, e)) =
    guarding_quiet root o m faults
session_stopped root fetched NoMemory stops = short_of_memory 0 refl refl

-- a session that was begun, and its conversation
pub talked_rest : {S : Type 0} (root : List ℕ) (fetched : PlainDtd × List ℕ)
    (session : PlainSession) (input input_now : InputNow S) (old new : OutputNow)
    (before middle after : ℕ) (status : Status) →
    (session_stage root fetched).Opens session 0 →
    CountsOpening {Y = PlainSession} (judging_stage root fetched.0 fetched.1) lists_judged before
    middle (Ok session) → Talked session input input_now old new middle after status →
    DoesRest Session root fetched input input_now old new before after status
talked_rest root fetched session input input_now old new before middle after status opens counts
    talked =
    let rest = talked.talk.course in
    let none : opens.2 ≡ 0 = omega (arith, opens.5) in
    record {
      talk = record {
        course = after_fetches 0 (after_fetches 0 rest);
        goes = opened opens.0 0 (after_fetches 0 rest) (opens.3.0, refl)
            (opened session 0 rest (rw none at opens.4) talked.talk.goes refl) refl;
        no_fetch = omega (arith, talked.talk.no_fetch);
        no_fault = talked.talk.no_fault;
        streams = streams_after 0 (after_fetches 0 rest) input input_now old new status
            (streams_after 0 rest input input_now old new status talked.talk.streams);
      };
      checks = opened_goes (judging_stage root fetched.0 fetched.1) lists_judged
          (CountsScript (after_fetches 0 (after_fetches 0 rest))) rest.ending before middle after
          session counts talked.counts;
    }
