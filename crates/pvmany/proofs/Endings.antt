-- An answer, apart from what its input is.
use Rattle.std.proofs.Common.{ℕ, List, Option, Some, None, refl}
use Rattle.pv_many.specs.Many.{AnswersAsked}
use Rattle.pv_many.specs.Requests.{ManyRequest}
use Rattle.pv_opening.specs.Devices.{InputNow, OutputNow, ShelfNow}
use Rattle.pv_opening.specs.ShownCourses.{TakesInput}
use Rattle.pv_opening.specs.declared.status.Status.{Status}
use Rattle.pvmany.specs.Here.{input_told}

taken_so : {S : Type 0} (taken : Option (List ℕ)) (before after : InputNow S) →
    TakesInput taken before after → TakesInput taken (input_told before) (input_told after)
taken_so None before after takes = refl
taken_so (Some bytes) before after takes = takes

pub answers_so : {S : Type 0} (asked : Option ManyRequest)
    (shelf shelf_now archive archive_now : ShelfNow) (input input_now : InputNow S)
    (output output_now : OutputNow) (status : Status) →
    AnswersAsked asked shelf shelf_now archive archive_now input input_now output output_now status →
    AnswersAsked asked shelf shelf_now archive archive_now (input_told input) (input_told input_now) output output_now status
answers_so asked shelf shelf_now archive archive_now input input_now output output_now status answer = record {
  files = answer.files;
  are_files = answer.are_files;
  answers = answer.answers;
  are_answers = answer.are_answers;
  course = answer.course;
  is_defined = answer.is_defined;
  unread = answer.unread;
  shelf_shows = answer.shelf_shows;
  archive_shows = answer.archive_shows;
  streams = record {
    input = answer.streams.input;
    taken = taken_so answer.course.taken input input_now answer.streams.taken;
    asked = answer.streams.asked;
    at_end = answer.streams.at_end;
    output = answer.streams.output;
  };
}
