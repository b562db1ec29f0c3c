-- The answers to names, each as a command of `pvtag` answers for a document.
use Rattle.std.specs.Prelude.{◌≡◌, ℕ, List, [], ◌∷◌, ◌++◌, codes, map, Option}
use Rattle.std.specs.List.{AllByRecursion}
use Rattle.pv_dtd.specs.Plain.{PlainDtd}
use Rattle.pv_commands.specs.Check.{IsCheckCourse}
use Rattle.pv_commands.specs.Valid.{IsValidCourse}
use Rattle.pv_opening.specs.Course.{Course, RunEnding, responds, shelf_fault, input_fault}
use Rattle.pv_opening.specs.Course.{output_fault, no_memory, without_input}
use Rattle.pv_opening.specs.Devices.{ShelfNow}
use Rattle.pv_opening.specs.Documents.{PlainOpened, document_stage}
use Rattle.pv_opening.specs.Opening.{IsFile, document_fetch_stage, opening_stage}
use Rattle.pv_opening.specs.ShownCourses.{ShowsShelf}
use Rattle.pv_opening.specs.Stage.{Stage, Behind, followed_by}
use Rattle.pv_many.specs.declared.requests.Question.{Question}
use Rattle.pv_many.specs.declared.requests.Question.TheVariants.{Check, Need, Valid}
use Rattle.pv_many.specs.MissingAnswers.{IsNeedCourse}

-- an answer: the name of a document, the file of that name, and how the command on it ended
pub record NamedAnswer : Type 0 where
  pub name : List ℕ
  pub file : Option (List ℕ)
  pub ending : RunEnding

-- what the command of a question does after the opened files; that of `need` is a session whose
-- script is this line
abbrev pub Does : Question → List ℕ → PlainOpened → Course → Type 0
Does Valid root opened = IsValidCourse root opened
Does Check root opened = IsCheckCourse root opened
Does Need root opened = IsNeedCourse root opened

-- fetching a document, and reading it, once a DTD is opened
abbrev pub document_file_stage : List ℕ → PlainDtd → Option (List ℕ) → Stage PlainOpened
document_file_stage root g file =
    followed_by (document_fetch_stage file) (λ bytes. document_stage root g bytes)

-- the command of this question may end so over the file, once this DTD is opened
abbrev pub IsDocumentAnswer : Question → List ℕ → PlainDtd → Option (List ℕ) → RunEnding → Type 0
IsDocumentAnswer question root g file ending =
    Behind (document_file_stage root g file) (Does question root) (without_input 1 ending)

-- the command line of this question with a DTD, a root and a document may end so over the files of
-- the DTD and of the document
pub record IsCommandAnswer (question : Question) (root : List ℕ) (dtd : Option (List ℕ))
    (a : NamedAnswer) : Type 0 where
  pub fetches : ℕ
  pub is_course : Behind (opening_stage root (dtd ∷ a.file ∷ [])) (Does question root)
      (without_input fetches a.ending)

-- the line of an answer: the one that the command prints, or why it prints none
abbrev pub line_of : RunEnding → List ℕ
line_of (responds r) = r.output
line_of shelf_fault = codes "no file\n"
line_of (input_fault out) = []
line_of (output_fault out) = []
line_of no_memory = codes "no memory\n"

-- the bytes of an answer: the name, a NUL, and the line
abbrev pub answer_text : NamedAnswer → List ℕ
answer_text a = a.name ++ (0 ∷ line_of a.ending)

-- the bytes of answers, in order
abbrev pub answers_text : List NamedAnswer → List ℕ
answers_text [] = []
answers_text (a ∷ answers) = answer_text a ++ answers_text answers

-- the names that were answered, in order
abbrev pub names_answered : List NamedAnswer → List (List ℕ)
names_answered answers = map (λ a. a.name) answers

-- the shelf shows the answers: it was asked for one file for each, in order, and failed where one
-- says so
abbrev pub ShowsAnswers : List NamedAnswer → ShelfNow → ShelfNow → Type 0
ShowsAnswers [] before after = after ≡ before
ShowsAnswers (a ∷ answers) before after = (between : ShelfNow)
    × ShowsShelf (without_input 1 a.ending) before between × ShowsAnswers answers between after

-- what a name is answered, up to the writing of its line
pub record FindsDocumentAnswer (question : Question) (root : List ℕ) (g : PlainDtd) (name : List ℕ)
    (before after : ShelfNow) (ending : RunEnding) : Type 0 where
  pub file : Option (List ℕ)
  pub is_file : IsFile before.files name file
  pub is_answer : IsDocumentAnswer question root g file ending
  pub shelf : ShowsShelf (without_input 1 ending) before after
  pub same : after.files ≡ before.files

-- a name is answered, and the output shows the bytes of the answer so
pub record AnswersName (question : Question) (root : List ℕ) (g : PlainDtd) (name : List ℕ)
    (before after : ShelfNow) (Shows : List ℕ → Type 0) : Type 0 where
  pub ending : RunEnding
  pub found : FindsDocumentAnswer question root g name before after ending
  pub shown : Shows (name ++ (0 ∷ line_of ending))

-- one of these answers: there is such a file, and the command may end so over it
abbrev pub IsAnswerFor : Question → List ℕ → PlainDtd → Option (List (List ℕ × List ℕ)) →
    NamedAnswer → Type 0
IsAnswerFor question root g told a =
    IsFile told a.name a.file × IsDocumentAnswer question root g a.file a.ending

-- names were answered, in order, and the output shows the bytes of the answers so
pub record AnswersNames (question : Question) (root : List ℕ) (g : PlainDtd)
    (before after : ShelfNow) (answers : List NamedAnswer) (Shows : List ℕ → Type 0) : Type 0 where
  pub answered : AllByRecursion (IsAnswerFor question root g before.files) answers
  pub shelf : ShowsAnswers answers before after
  pub shown : Shows (answers_text answers)
  pub same : after.files ≡ before.files
