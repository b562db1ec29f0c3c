-- What a run comes to, over its words, its files and its input.
use Rattle.std.specs.Prelude.{◌≡◌, ◌≤◌, ◌<◌, ℕ, Bool, true, false, List, [], ◌++◌}
use Rattle.std.specs.Prelude.{codes, length}
use Rattle.std.specs.Prelude.{Option, Some, None}
use Rattle.std.specs.Io.KnownBytes.{Appends}
use Rattle.std.specs.List.{AllByRecursion}
use Rattle.pv_dtd.specs.Plain.{PlainDtd}
use Rattle.pv_io.specs.Causes.{AppendsFront, CountStays, Rose}
use Rattle.pv_opening.specs.Course.{Course, RunEnding, responds, input_fault, output_fault}
use Rattle.pv_opening.specs.Course.{no_memory, without_input}
use Rattle.pv_opening.specs.Devices.{InputNow, OutputNow, ShelfNow}
use Rattle.pv_opening.specs.Opening.{AreFiles, Files, IsFile, dtd_file_stage, file_at}
use Rattle.pv_opening.specs.Response.{with_line}
use Rattle.pv_opening.specs.ShownCourses.{CountsShelf, ShowsShelf, ShowsStreams}
use Rattle.pv_opening.specs.Stage.{Behind, Responds}
use Rattle.pv_opening.specs.declared.status.Status.{Status}
use Rattle.pv_opening.specs.declared.status.Status.TheVariants.{Done, Limit, NoMemory, Usage}
use Rattle.pv_many.specs.Answers.{NamedAnswer, AnswersNames, IsAnswerFor, IsCommandAnswer}
use Rattle.pv_many.specs.Answers.{ShowsAnswers, answers_text, names_answered}
use Rattle.pv_many.specs.Names.{AreNames, StandInOrder, last_name}
use Rattle.pv_many.specs.Requests.{ManyRequest, dtd_asked, request, asked_request}
use Rattle.pv_many.specs.declared.input.Halt.{Halt}
use Rattle.pv_many.specs.declared.input.Halt.TheVariants.{OutOfMemory, OutputFault}
use Rattle.pv_many.specs.declared.requests.Question.{Question}

-- the most bytes of all names, with the NULs that end them
abbrev pub max_names_bytes : ℕ
max_names_bytes = 1099511627776

-- How a run ended over the bytes that it took of the input, after these answers. All names were
-- answered, the last one also where no NUL ends it; or the input failed, and all whole names were
-- answered; or the output failed, or there was no memory for a name, or more bytes were taken than
-- names may have: then those up to some name were.
pub data EndsAfter (taken : List ℕ) (answers : List NamedAnswer) (at_end : Bool)
    (ending : RunEnding) : Type 0 where
  answered_all : (names : List (List ℕ)) (rest : List ℕ) → AreNames taken names rest →
      length taken ≤ max_names_bytes →
      names_answered answers ≡ names ++ last_name rest → at_end ≡ true →
      ending ≡ responds (record { status = Done; output = answers_text answers }) →
      EndsAfter taken answers at_end ending
  input_failed : (rest : List ℕ) → AreNames taken (names_answered answers) rest → at_end ≡ false →
      ending ≡ input_fault (answers_text answers) → EndsAfter taken answers at_end ending
  output_failed : StandInOrder taken (names_answered answers) → at_end ≡ false →
      ending ≡ output_fault (answers_text answers) → EndsAfter taken answers at_end ending
  without_memory : StandInOrder taken (names_answered answers) → at_end ≡ false →
      ending ≡ responds (record { status = NoMemory; output = answers_text answers }) →
      EndsAfter taken answers at_end ending
  too_many : StandInOrder taken (names_answered answers) → max_names_bytes < length taken →
      at_end ≡ false →
      ending ≡ responds (record {
        status = Limit;
        output = answers_text answers ++ codes "limit names\n";
      }) →
      EndsAfter taken answers at_end ending

-- the courses over the input, once the DTD is opened: there was no memory to begin with, or the
-- names were answered
pub data AnswersInput (answers : List NamedAnswer) (course : Course) : Type 0 where
  no_room : course ≡ without_input 0 no_memory → AnswersInput answers course
  over_input : (taken : List ℕ) → course.taken ≡ Some taken → course.fetches ≡ 0 →
      EndsAfter taken answers course.at_end course.ending → AnswersInput answers course

-- the courses that a request may take over the file of its DTD: it is opened, and then the names of
-- the input are answered
abbrev pub IsManyCourse : Option ManyRequest → Files → List NamedAnswer → Course → Type 0
IsManyCourse None files answers = Responds (λ r. r ≡ with_line Usage (codes "usage"))
IsManyCourse (Some (request question dtd root)) files answers =
    Behind (dtd_file_stage (file_at 0 files)) (λ _. AnswersInput answers)

-- for each answer there is a file of its name, the one that the archive tells where it tells its
-- files, and the command line of the question with this DTD, this root and this document may answer
-- so over the DTD's file and that one
abbrev pub AreAnswers : Option ManyRequest → Option (List (List ℕ × List ℕ)) → Files →
    List NamedAnswer → Type 0
AreAnswers None told files answers = Unit {0}
AreAnswers (Some (request question dtd root)) told files answers = AllByRecursion
    (λ a. IsFile told a.name a.file × IsCommandAnswer question root (file_at 0 files) a) answers

-- The answer to a request over devices. There are a file of the DTD, the one that the shelf tells
-- where it tells it; answers, each of which is that of a command; and a course that is defined for
-- the request, which the shelf, the input, the output and the status show. The archive shows the
-- answers, of which there are none where the input isn't asked.
pub record AnswersAsked {S : Type 0} (asked : Option ManyRequest) (shelf shelf_now : ShelfNow)
    (archive archive_now : ShelfNow) (input input_now : InputNow S)
    (output output_now : OutputNow) (status : Status) : Type 0 where
  pub files : Files
  pub are_files : AreFiles shelf.files (dtd_asked asked) files
  pub answers : List NamedAnswer
  pub are_answers : AreAnswers asked archive.files files answers
  pub course : Course
  pub is_defined : IsManyCourse asked files answers course
  pub unread : course.taken ≡ None → answers ≡ []
  pub shelf_shows : ShowsShelf course shelf shelf_now
  pub archive_shows : ShowsAnswers answers archive archive_now
  pub streams : ShowsStreams course input input_now output output_now status

-- The answer to words over devices: that to the request which they are.
abbrev pub AnswersMany : {S : Type 0} → List (List ℕ) → ShelfNow → ShelfNow → ShelfNow →
    ShelfNow → InputNow S → InputNow S → OutputNow → OutputNow → Status → Type 0
AnswersMany words shelf shelf_now archive archive_now input input_now output output_now status =
    AnswersAsked (asked_request words) shelf shelf_now archive archive_now input input_now output
    output_now status

-- the part of a run that comes after the DTD was opened
pub record AnswersOver {S : Type 0} (question : Question) (root : List ℕ) (g : PlainDtd)
    (archive archive_now : ShelfNow) (input input_now : InputNow S) (output output_now : OutputNow)
    (status : Status) : Type 0 where
  pub answers : List NamedAnswer
  pub answered : AllByRecursion (IsAnswerFor question root g archive.files) answers
  pub course : Course
  pub is_course : AnswersInput answers course
  pub unread : course.taken ≡ None → answers ≡ []
  pub no_fetch : course.fetches ≡ 0
  pub no_fault : (count : ℕ) → CountsShelf course.ending count count
  pub archive_shows : ShowsAnswers answers archive archive_now
  pub streams : ShowsStreams course input input_now output output_now status

-- what the output shows of answers at which a run halts, and its count of faults
abbrev pub HaltShows : Halt → Option (List ℕ) → Option (List ℕ) → List ℕ → Type 0
HaltShows OutOfMemory old new text = Appends old new text
HaltShows OutputFault old new text = AppendsFront old new text

abbrev pub HaltCounts : Halt → ℕ → ℕ → Type 0
HaltCounts OutOfMemory before after = CountStays before after
HaltCounts OutputFault before after = Rose before after

-- the names that a piece of the input ends were answered, and these bytes are held of the next
pub record AnswersPiece (question : Question) (root : List ℕ) (g : PlainDtd)
    (before after : ShelfNow) (held piece held_now : List ℕ) (Shows : List ℕ → Type 0) : Type 0 where
  pub answers : List NamedAnswer
  pub are_names : AreNames (held ++ piece) (names_answered answers) held_now
  pub so_far : AnswersNames question root g before after answers Shows

-- names of a piece of the input were answered, up to one of them
pub record StopsWithin (question : Question) (root : List ℕ) (g : PlainDtd)
    (before after : ShelfNow) (held piece : List ℕ) (Shows : List ℕ → Type 0) : Type 0 where
  pub answers : List NamedAnswer
  pub in_order : StandInOrder (held ++ piece) (names_answered answers)
  pub so_far : AnswersNames question root g before after answers Shows

-- these names were answered
pub record AnswersThese (question : Question) (root : List ℕ) (g : PlainDtd)
    (before after : ShelfNow) (names : List (List ℕ)) (Shows : List ℕ → Type 0) : Type 0 where
  pub answers : List NamedAnswer
  pub are_names : names_answered answers ≡ names
  pub so_far : AnswersNames question root g before after answers Shows
