-- How a session that ended over its script shows in its devices.
use Rattle.std.proofs.Common.{◌≡◌, ◌+◌, ℕ, Bool, true, List, length, Some, refl}
use Rattle.std.specs.Io.KnownBytes.{Consumes, IsAtEnd}
use Rattle.pv_session.specs.Sessions.{PlainSession}
use Rattle.pv_opening.specs.declared.status.Status.{Status}
use Rattle.pv_opening.specs.declared.status.Status.TheVariants.{NoMemory}
use Rattle.pv_conversation.specs.Conversation.{Talked}
use Rattle.pv_conversation.specs.CountedLines.{CountsFirst, lines_answered}
use Rattle.pv_opening.specs.Course.{RunEnding, no_memory, without_input}
use Rattle.pv_opening.specs.Devices.{InputNow, OutputNow}
use Rattle.pv_opening.specs.ShownCourses.{AskedAtMost, CountsInput, CountsShelf, WritesEnding}
use Rattle.pv_opening.specs.ShownCourses.{wrote}
use Rattle.pv_conversation.specs.Session.{EndsSession, ended_over, without_room}
use Rattle.pv_io.proofs.Streams.{appends_none}

pub no_room : {S : Type 0} (session : PlainSession) (input : InputNow S) (output : OutputNow) (checked : ℕ) → Talked session input input output output checked checked NoMemory
no_room session input output checked = record {
  talk = record {
    course = without_input 0 no_memory;
    goes = without_room refl;
    no_fetch = refl;
    no_fault = λ count. refl;
    streams = record { input = refl; taken = refl; asked = refl; at_end = λ is. tt; output = wrote refl refl (appends_none output.written) refl };
  };
  counts = refl;
}

-- a session ended over the bytes that were taken
pub has_course : {S : Type 0} (session : PlainSession) (script silent : List ℕ) (at_end : Bool)
    (ending : RunEnding) (input input_now : InputNow S) (old new : OutputNow)
    (checked checked_now : ℕ) (status : Status) →
    EndsSession session script silent at_end ending → Consumes input.left input_now.left script →
    AskedAtMost (length script + 1) 1 input.calls input_now.calls → (at_end ≡ true →
    IsAtEnd input_now.left) →
    ((n : ℕ) → CountsShelf ending n n) → CountsInput ending input.faults input_now.faults → WritesEnding ending old.written new.written old.faults new.faults status →
    CountsFirst silent (lines_answered at_end script) checked checked_now → Talked session input input_now old new checked checked_now status
has_course session script silent at_end ending input input_now old new checked checked_now status ends taken asked whole shelf_stays counts writes checks = record {
  talk = record {
    course = record { fetches = 0; taken = Some script; at_end = at_end; silent = silent; ending = ending };
    goes = ended_over script refl refl ends;
    no_fetch = refl;
    no_fault = shelf_stays;
    streams = record { input = counts; taken = taken; asked = asked; at_end = whole; output = writes };
  };
  counts = checks;
}
