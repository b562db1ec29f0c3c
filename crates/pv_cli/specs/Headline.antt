-- What a session does, in one statement: all that it cites is the grammars of DTDs and documents,
-- the steps of a session, and the bytes of scripts and replies.
use Rattle.std.specs.Prelude.{◌≡◌, ◌≤◌, ◌⊎◌, ℕ, List, [], length, Option, Some}
use Rattle.std.specs.Io.KnownBytes.{Appends}
use Rattle.pv_dtd.specs.DtdTexts.{IsDtdText, KeepsLimits}
use Rattle.pv_dtd.specs.Facts.{MAX_DTD_BYTES}
use Rattle.pv_dtd.specs.Plain.{PlainDtd}
use Rattle.pv_io.specs.Causes.{Rose}
use Rattle.pv_io.specs.Files.{file_named}
use Rattle.pv_params.specs.Meaning.{Expands, expanded}
use Rattle.pv_read.specs.Grammar.{IsDocumentText}
use Rattle.pv_read.specs.Meaning.{MAX_DOC_BYTES}
use Rattle.pv_words.specs.Lines.{lines_of}
use Rattle.pv_session.specs.Sessions.{PlainSession, session_on}
use Rattle.pv_tree.specs.Marks.{unmarked_doc}
use Rattle.pv_tree.specs.Plain.{PlainDoc}
use Rattle.pv_tree.specs.declared.nodes.Mark.{Mark}
use Rattle.pv_opening.specs.Possibility.{AreAllNarrow}
use Rattle.pv_cli.specs.CommandLine.{PlainCommandLine, on_document}
use Rattle.pv_opening.specs.Devices.{Devices}
use Rattle.pv_conversation.specs.Script.{IsWithin}
use Rattle.pv_conversation.specs.Session.{Place, Replies}
use Rattle.pv_opening.specs.declared.status.Status.{Status}
use Rattle.pv_opening.specs.declared.status.Status.TheVariants.{Done, NoMemory}
use Rattle.pv_cli.specs.declared.verb.Verb.TheVariants.{Session}

-- the file of this name is, with its parameter entities put in place, the text of this DTD, within
-- the limits
pub record HoldsDtd (told : List (List ℕ × List ℕ)) (name : List ℕ) (g : PlainDtd) : Type 0 where
  pub bytes : List ℕ
  pub is_file : file_named name told ≡ Some bytes
  pub within : length bytes ≤ MAX_DTD_BYTES
  pub text : List ℕ
  pub expands : Expands bytes (expanded text)
  pub is_text : IsDtdText text g
  pub limits : KeepsLimits text g

-- the file of this name is the text of this document with this root, within the limits
pub record HoldsDocument (told : List (List ℕ × List ℕ)) (name root : List ℕ) (doc : PlainDoc Mark)
    : Type 0 where
  pub bytes : List ℕ
  pub is_file : file_named name told ≡ Some bytes
  pub within : length bytes ≤ MAX_DOC_BYTES
  pub is_text : IsDocumentText root bytes doc

-- no device failed
pub record NoneRose {S : Type 0} (before after : Devices S) : Type 0 where
  pub shelf : Rose before.shelf.faults after.shelf.faults → ⊥
  pub input : Rose before.input.faults after.input.faults → ⊥
  pub output : Rose before.output.faults after.output.faults → ⊥

-- there was no memory, and nothing was written
pub record HadNoMemory {S : Type 0} (before after : Devices S) (status : Status) : Type 0 where
  pub is_status : status ≡ NoMemory
  pub unwritten : Appends before.output.written after.output.written []

-- the replies to all lines of the script were written, in this session, and nothing else; `silent`
-- are the lines that answered `no memory` and changed nothing
pub record AnswersScript {S : Type 0} (session : PlainSession) (script : List ℕ)
    (before after : Devices S) (status : Status) : Type 0 where
  pub silent : List ℕ
  pub out : List ℕ
  pub place : Place
  pub replies : Replies silent 1 session (lines_of script) out place
  pub written : Appends before.output.written after.output.written out
  pub is_done : status ≡ Done

-- Where the shelf and the input tell their bytes and no device failed, the files are the texts of a
-- DTD and of a document, no list of the document is too wide, and the script keeps its limits:
-- `session` writes exactly the replies to the script in the session that the document begins, or
-- there was no memory before the first, and it wrote nothing.
abbrev pub GuardsSession : {S : Type 0} → Option PlainCommandLine → Devices S → Devices S → Status →
    Type 0
GuardsSession line before after status = (told : List (List ℕ × List ℕ))
    (dtd root name script : List ℕ) (g : PlainDtd) (doc : PlainDoc Mark) →
    line ≡ Some (on_document Session dtd root name) →
    before.shelf.files ≡ Some told → before.input.left ≡ Some script → NoneRose before after →
    HoldsDtd told dtd g → HoldsDocument told name root doc → AreAllNarrow g doc →
    IsWithin script →
    HadNoMemory before after status ⊎
    AnswersScript (session_on g root (unmarked_doc doc)) script before after status
