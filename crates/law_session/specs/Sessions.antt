-- What a session does over a DTD in whose file neither `%` nor `<![` stands.
use Rattle.std.specs.Prelude.{◌≡◌, ◌⊎◌, ℕ, List, Option, Some}
use Rattle.pv_dtd.specs.DtdTexts.{IsDtdText, KeepsLimits}
use Rattle.pv_dtd.specs.Plain.{PlainDtd}
use Rattle.pv_io.specs.Files.{file_named}
use Rattle.pv_params.specs.Laws.{HasNothingToExpand}
use Rattle.pv_session.specs.Sessions.{session_on}
use Rattle.pv_tree.specs.Marks.{unmarked_doc}
use Rattle.pv_tree.specs.Plain.{PlainDoc}
use Rattle.pv_tree.specs.declared.nodes.Mark.{Mark}
use Rattle.pv_opening.specs.Devices.{Devices}
use Rattle.pv_opening.specs.Possibility.{AreAllNarrow}
use Rattle.pv_opening.specs.declared.status.Status.{Status}
use Rattle.pv_conversation.specs.Script.{IsWithin}
use Rattle.pv_cli.specs.CommandLine.{PlainCommandLine, on_document}
use Rattle.pv_cli.specs.Headline.{AnswersScript, GuardsSession, HadNoMemory, HoldsDocument}
use Rattle.pv_cli.specs.Headline.{NoneRose}
use Rattle.pv_cli.specs.declared.verb.Verb.TheVariants.{Session}

-- the file of this name is the text of this DTD, within the limits, and neither `%` nor `<![`
-- stands in it
pub record HoldsSimpleDtd (told : List (List ℕ × List ℕ)) (name : List ℕ) (g : PlainDtd) :
    Type 0 where
  pub bytes : List ℕ
  pub is_file : file_named name told ≡ Some bytes
  pub simple : HasNothingToExpand bytes
  pub is_text : IsDtdText bytes g
  pub limits : KeepsLimits bytes g

-- Where the shelf and the input tell their bytes and no device failed, the files are the texts of
-- such a DTD and of a document, no list of the document is too wide, and the script keeps its
-- limits: `session` writes exactly the replies to the script in the session that the document
-- begins, or there was no memory before the first, and it wrote nothing.
abbrev pub GuardsSimpleSession : {S : Type 0} → Option PlainCommandLine → Devices S → Devices S →
    Status → Type 0
GuardsSimpleSession line before after status = (told : List (List ℕ × List ℕ))
    (dtd root name script : List ℕ) (g : PlainDtd) (doc : PlainDoc Mark) →
    line ≡ Some (on_document Session dtd root name) →
    before.shelf.files ≡ Some told → before.input.left ≡ Some script → NoneRose before after →
    HoldsSimpleDtd told dtd g → HoldsDocument told name root doc → AreAllNarrow g doc →
    IsWithin script →
    HadNoMemory before after status ⊎ AnswersScript (session_on g root (unmarked_doc doc)) script
    before after status

-- what guards a session guards one over such a DTD
abbrev pub SimpleSessionsAreGuarded : Type 0 → Type 0
SimpleSessionsAreGuarded S = (line : Option PlainCommandLine) (before after : Devices S)
    (status : Status) → GuardsSession line before after status →
    GuardsSimpleSession line before after status
