-- What the parts of the program return.
use Rattle.std.specs.Prelude.{◌≡◌, ℕ, List, Result, Ok, Err}
use Rattle.pv_dtd.specs.Plain.{PlainDtd}
use Rattle.pv_dtd.specs.PlainForms.{plain_dtd}
use Rattle.pv_io.specs.Causes.{CountStays, MadeCalls, Rose}
use Rattle.pv_read.specs.Meaning.{DocumentMeans, is_document}
use Rattle.pv_tree.specs.Marks.{blank_mark}
use Rattle.pv_tree.specs.PlainDocs.{plain_doc}
use Rattle.pv_opening.specs.Course.{Course, RunEnding, no_memory, responds, shelf_fault}
use Rattle.pv_opening.specs.Course.{without_input}
use Rattle.pv_opening.specs.Devices.{InputNow, OutputNow, ShelfNow}
use Rattle.pv_opening.specs.Documents.{PlainOpened}
use Rattle.pv_opening.specs.ShownCourses.{CountsShelf, ShowsStreams}
use Rattle.pv_opening.specs.Response.{PlainResponse, plain_response}
use Rattle.pv_opening.specs.Stage.{Stage}
use Rattle.pv_opening.specs.declared.opening.Fetched.{Fetched}
use Rattle.pv_opening.specs.declared.opening.Opened.{Opened}
use Rattle.pv_opening.specs.declared.response.Response.{Response}
use Rattle.pv_opening.specs.declared.status.Status.{Status}
use Rattle.pv_opening.specs.declared.stop.Stop.{Stop}
use Rattle.pv_opening.specs.declared.stop.Stop.TheVariants.{Refused, ShelfFault, NoMemory}

-- a DTD and the bytes of a document, seen as plain data
abbrev pub plain_fetched : Fetched → PlainDtd × List ℕ
plain_fetched fetched = (plain_dtd fetched.dtd, fetched.bytes.items)

-- and with the document
abbrev pub plain_opened : Opened → PlainOpened
plain_opened opened = record {
  dtd = plain_dtd opened.dtd;
  bytes = opened.bytes.items;
  doc = plain_doc opened.doc;
}

-- the opened bytes mean the opened document
abbrev pub IsOpenedBy : List ℕ → Opened → Type 0
IsOpenedBy root opened =
    DocumentMeans blank_mark root opened.bytes.items (is_document (plain_doc opened.doc))

-- a stop with such a response, or for want of memory
abbrev pub RefusesWith : (PlainResponse → Type 0) → Stop → Type 0
RefusesWith IsResponse (Refused response) = IsResponse (plain_response response)
RefusesWith IsResponse ShelfFault = ⊥
RefusesWith IsResponse NoMemory = Unit {0}

-- why a stage stopped after so many fetches
abbrev pub StopsBy : {X : Type 0} → Stage X → ℕ → Stop → Type 0
StopsBy stage n (Refused response) = stage.Refuses (plain_response response) n
StopsBy stage n ShelfFault = stage.Faults n
StopsBy stage n NoMemory = stage.Lacks n

-- what a stage returned after so many fetches, seen as plain data
abbrev pub Returns : {X Y : Type 0} → (X → Y) → Stage Y → ℕ → Result X Stop → Type 0
Returns plain stage n (Ok x) = stage.Opens (plain x) n
Returns plain stage n (Err stop) = StopsBy stage n stop

abbrev pub StopCounts : ℕ → ℕ → Stop → Type 0
StopCounts before after (Refused response) = CountStays before after
StopCounts before after ShelfFault = Rose before after
StopCounts before after NoMemory = CountStays before after

-- the shelf's count of faults rose where it failed, and else it stayed
abbrev pub ShelfCounts : {X : Type 0} → ℕ → ℕ → Result X Stop → Type 0
ShelfCounts before after (Ok x) = CountStays before after
ShelfCounts before after (Err stop) = StopCounts before after stop

-- A stage over files returned this: there are such files, and the calls of the shelf rose by the
-- stage's fetches, its count of faults where it failed. It tells the same files as before.
pub record ReturnsOver {F X Y : Type 0} (AreSuch : F → Type 0) (plain : X → Y) (stage : F → Stage Y)
    (before after : ShelfNow) (result : Result X Stop) : Type 0 where
  pub files : F
  pub are_such : AreSuch files
  pub fetches : ℕ
  pub returns : Returns plain (stage files) fetches result
  pub calls : MadeCalls fetches before.calls after.calls
  pub faults : ShelfCounts before.faults after.faults result
  pub same : after.files ≡ before.files

-- what the end of the order of work returned
abbrev pub TellsBy : (PlainResponse → Type 0) → Result Response Stop → Type 0
TellsBy IsResponse (Ok response) = IsResponse (plain_response response)
TellsBy IsResponse (Err stop) = RefusesWith IsResponse stop

-- what returned takes such a course that leaves the shelf and the input alone
abbrev pub TakesCourse : (Course → Type 0) → Result Response Stop → Type 0
TakesCourse Goes (Ok response) = Goes (without_input 0 (responds (plain_response response)))
TakesCourse Goes (Err (Refused response)) =
    Goes (without_input 0 (responds (plain_response response)))
TakesCourse Goes (Err ShelfFault) = ⊥
TakesCourse Goes (Err NoMemory) = Goes (without_input 0 no_memory)

-- how what leaves the input alone ended
abbrev pub ending_of : Result Response Stop → RunEnding
ending_of (Ok response) = responds (plain_response response)
ending_of (Err (Refused response)) = responds (plain_response response)
ending_of (Err ShelfFault) = shelf_fault
ending_of (Err NoMemory) = no_memory

-- What a command on a document does once the document's bytes are fetched: it takes a course that
-- asks no shelf, which the input and the output show.
pub record GoesThrough {S : Type 0} (Goes : Course → Type 0) (input input_now : InputNow S)
    (output output_now : OutputNow) (status : Status) : Type 0 where
  pub course : Course
  pub goes : Goes course
  pub no_fetch : course.fetches ≡ 0
  pub no_fault : (count : ℕ) → CountsShelf course.ending count count
  pub streams : ShowsStreams course input input_now output output_now status
