-- What the commands return.
use Rattle.std.specs.Prelude.{ℕ, List, Result}
use Rattle.pv_dtd.specs.Plain.{PlainDtd}
use Rattle.pv_opening.specs.Course.{Course, without_input}
use Rattle.pv_opening.specs.Devices.{ShelfNow}
use Rattle.pv_opening.specs.Documents.{PlainOpened, document_stage}
use Rattle.pv_opening.specs.JudgedCounts.{CountsNoMore}
use Rattle.pv_opening.specs.Opening.{AreFiles, Files}
use Rattle.pv_opening.specs.Returns.{ending_of}
use Rattle.pv_opening.specs.ShownCourses.{ShowsShelf}
use Rattle.pv_opening.specs.Stage.{Behind}
use Rattle.pv_opening.specs.declared.response.Response.{Response}
use Rattle.pv_opening.specs.declared.stop.Stop.{Stop}

-- a command on a document, once the DTD is opened and the document's bytes are fetched: they are
-- read, and then it does this
abbrev pub BehindDocument : (List ℕ → PlainOpened → Course → Type 0) → List ℕ →
    PlainDtd × List ℕ → Course → Type 0
BehindDocument Does root fetched = Behind (document_stage root fetched.0 fetched.1) (Does root)

-- What a command that leaves the input alone does, up to the writing of its response: there are
-- files of these names, those that the shelf tells where it tells them, and over them it takes such
-- a course, which the shelf shows; and the counter went on so.
pub record FindsOver (names : List (List ℕ)) (Takes : Files → Course → Type 0)
    (Counts : Files → Course → ℕ → ℕ → Type 0) (before after : ShelfNow) (checked checked_now : ℕ)
    (result : Result Response Stop) : Type 0 where
  pub files : Files
  pub are_files : AreFiles before.files names files
  pub fetches : ℕ
  pub takes : Takes files (without_input fetches (ending_of result))
  pub shelf : ShowsShelf (without_input fetches (ending_of result)) before after
  pub checks : Counts files (without_input fetches (ending_of result)) checked checked_now

-- no lists are counted, whatever the files are
abbrev pub CountsNone : Files → Course → ℕ → ℕ → Type 0
CountsNone files course before after = CountsNoMore before after
