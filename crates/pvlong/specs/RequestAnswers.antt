-- What words are answered, over files and devices.
use Rattle.std.specs.Prelude.{◌≡◌, ℕ, Bool, List, codes, Option, Some, None, Result}
use Rattle.pv_dtd.specs.Plain.{PlainDtd}
use Rattle.pv_opening.specs.Course.{Course, without_input}
use Rattle.pv_opening.specs.Devices.{OutputNow, ShelfNow, shelf_at}
use Rattle.pv_opening.specs.Documents.{PlainOpened, document_stage}
use Rattle.pv_opening.specs.Opening.{AreFiles, Files, opening_stage}
use Rattle.pv_opening.specs.Response.{with_line}
use Rattle.pv_opening.specs.Returns.{ending_of}
use Rattle.pv_opening.specs.ShownCourses.{ShowsShelf, WritesEnding}
use Rattle.pv_opening.specs.Stage.{Behind, Responds}
use Rattle.pv_opening.specs.declared.status.Status.{Status}
use Rattle.pv_opening.specs.declared.status.Status.TheVariants.{Usage}
use Rattle.pv_opening.specs.declared.stop.Stop.{Stop}
use Rattle.pvlong.specs.Exits.{exit_of}
use Rattle.pvlong.specs.Requests.{PlainRequest, files_asked, request, request_of}
use Rattle.pvlong.specs.ToldNumbers.{TellsFor, not_least_in, response_in}
use Rattle.pvlong.specs.declared.exits.Exit.{Exit}
use Rattle.pvlong.specs.declared.requests.Question.{Question}
use Rattle.pvlong.specs.declared.telling.Told.{Told}

-- what comes after the opened files, and whether a document is told that may not be least
abbrev pub IsToldOf : Question → List ℕ → Bool → PlainOpened → Course → Type 0
IsToldOf question root not_least opened =
    Responds (TellsFor question root opened.dtd opened.doc opened.bytes not_least)

-- the courses that a request may take over its files: they are opened, and then it is answered
abbrev pub IsAnswerTo : Option PlainRequest → Files → Bool → Course → Type 0
IsAnswerTo None files not_least = Responds (λ r. r ≡ with_line Usage (codes "usage"))
IsAnswerTo (Some (request question dtd root doc)) files not_least =
    Behind (opening_stage root files) (IsToldOf question root not_least)

-- the courses that a request may take once the DTD is opened and the document's bytes are fetched
abbrev pub AnswersFetched : Question → List ℕ → PlainDtd × List ℕ → Bool → Course → Type 0
AnswersFetched question root fetched not_least =
    Behind (document_stage root fetched.0 fetched.1) (IsToldOf question root not_least)

-- what a request comes to, up to the writing of its response
pub record FindsAnswer (asked : Option PlainRequest) (before after : ShelfNow)
    (result : Result Told Stop) : Type 0 where
  pub files : Files
  pub are_files : AreFiles before.files (files_asked asked) files
  pub fetches : ℕ
  pub is_answer : IsAnswerTo asked files (not_least_in result)
      (without_input fetches (ending_of (response_in result)))
  pub shelf : ShowsShelf (without_input fetches (ending_of (response_in result))) before after

-- what was found is written, and the program ends
pub record EndsWith (result : Result Told Stop) (old new : OutputNow) (exit : Exit) : Type 0 where
  pub status : Status
  pub output : WritesEnding (ending_of (response_in result)) old.written new.written old.faults
      new.faults status
  pub ends : exit ≡ exit_of (not_least_in result) status

-- The answer to words over devices: there are files, those that the shelf tells where it tells
-- them, and a course that the request may take over these files, which the shelf, the output and
-- the status show. The program ends by that status, or by one of its own after a document that may
-- not be least.
pub record AnswersWords (words : List (List ℕ)) (before after : ShelfNow) (old new : OutputNow)
    (exit : Exit) : Type 0 where
  pub files : Files
  pub are_files : AreFiles before.files (files_asked (request_of words)) files
  pub not_least : Bool
  pub course : Course
  pub is_answer : IsAnswerTo (request_of words) files not_least course
  pub shelf : ShowsShelf course before after
  pub status : Status
  pub output : WritesEnding course.ending old.written new.written old.faults new.faults status
  pub ends : exit ≡ exit_of not_least status

-- An answer over devices that were neither asked nor failed before, where the shelf tells no file:
-- it ends so that their counts show it.
pub record AnswersHere (words : List (List ℕ)) (exit : Exit) : Type 0 where
  pub before : ShelfNow
  pub after : ShelfNow
  pub old : OutputNow
  pub new : OutputNow
  pub shelf : before ≡ shelf_at None 0 0
  pub output : old.faults ≡ 0
  pub answers : AnswersWords words before after old new exit
