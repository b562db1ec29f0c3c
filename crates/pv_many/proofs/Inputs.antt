-- What a run over an input shows.
use Rattle.std.proofs.Common.{◌≡◌, ◌+◌, ℕ, Bool, true, List, [], length, Some, None, refl}
use Rattle.std.specs.Io.KnownBytes.{Consumes, IsAtEnd}
use Rattle.std.specs.List.{AllByRecursion}
use Rattle.pv_dtd.specs.Plain.{PlainDtd}
use Rattle.pv_opening.specs.Course.{RunEnding, no_memory, without_input}
use Rattle.pv_opening.specs.Devices.{InputNow, OutputNow, ShelfNow}
use Rattle.pv_opening.specs.ShownCourses.{AskedAtMost, CountsInput, CountsShelf, WritesEnding}
use Rattle.pv_opening.specs.ShownCourses.{wrote}
use Rattle.pv_opening.specs.declared.status.Status.{Status}
use Rattle.pv_opening.specs.declared.status.Status.TheVariants.{NoMemory}
use Rattle.pv_io.proofs.Streams.{appends_none}
use Rattle.pv_many.specs.Answers.{NamedAnswer, IsAnswerFor, ShowsAnswers}
use Rattle.pv_many.specs.Many.{AnswersOver, EndsAfter, no_room as without_room, over_input}
use Rattle.pv_many.specs.declared.requests.Question.{Question}

some_is_none : (bytes : List ℕ) → Some bytes ≡ None → ⊥
some_is_none bytes is = cc

module _ {S : Type 0} (question : Question) (root : List ℕ) (g : PlainDtd) where
  pub no_room : (archive : ShelfNow) (input : InputNow S) (output : OutputNow) → AnswersOver question root g archive archive input input output output NoMemory
  no_room archive input output = record {
    answers = [];
    answered = tt;
    course = without_input 0 no_memory;
    is_course = without_room refl;
    unread = λ none. refl;
    no_fetch = refl;
    no_fault = λ count. refl;
    archive_shows = refl;
    streams = record { input = refl; taken = refl; asked = refl; at_end = λ is. tt; output = wrote refl refl (appends_none output.written) refl };
  }

  -- a run ended over the bytes that were taken
  pub has_course : (taken : List ℕ) (answers : List NamedAnswer) (at_end : Bool)
      (ending : RunEnding) (archive archive_now : ShelfNow) (input input_now : InputNow S)
      (old new : OutputNow)
      (status : Status) → EndsAfter taken answers at_end ending →
      AllByRecursion (IsAnswerFor question root g archive.files) answers →
      ShowsAnswers answers archive archive_now →
      Consumes input.left input_now.left taken → AskedAtMost (length taken + 1) 1 input.calls input_now.calls → (at_end ≡ true → IsAtEnd input_now.left) →
      ((n : ℕ) → CountsShelf ending n n) → CountsInput ending input.faults input_now.faults →
      WritesEnding ending old.written new.written old.faults new.faults status →
      AnswersOver question root g archive archive_now input input_now old new status
  has_course taken answers at_end ending archive archive_now input input_now old new status ends
      answered shows consumes asked whole shelf_stays counts writes = record {
        answers = answers;
        answered = answered;
        course = record { fetches = 0; taken = Some taken; at_end = at_end; silent = []; ending = ending };
        is_course = over_input taken refl refl ends;
        unread = λ none. absurd (some_is_none taken none);
        no_fetch = refl;
        no_fault = shelf_stays;
        archive_shows = shows;
        streams = record { input = counts; taken = consumes; asked = asked; at_end = whole; output = writes };
      }
