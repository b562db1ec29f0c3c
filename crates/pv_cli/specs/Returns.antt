-- What the commands return, by the command line.
use Rattle.std.specs.Prelude.{ℕ, List, Option, Result}
use Rattle.pv_dtd.specs.Plain.{PlainDtd}
use Rattle.pv_session.specs.Sessions.{PlainSession}
use Rattle.pv_cli.specs.Commands.{GoesOn}
use Rattle.pv_cli.specs.RunCounts.{CountsVerb}
use Rattle.pv_cli.specs.CommandLine.{PlainCommandLine, files_named}
use Rattle.pv_opening.specs.Devices.{InputNow, OutputNow, ShelfNow}
use Rattle.pv_opening.specs.Documents.{document_stage}
use Rattle.pv_opening.specs.JudgedCounts.{judging_stage}
use Rattle.pv_cli.specs.Program.{ChecksLists, IsDefined}
use Rattle.pv_commands.specs.Returns.{FindsOver}
use Rattle.pv_conversation.specs.Session.{guarding_stage}
use Rattle.pv_opening.specs.Stage.{Stage, followed_by}
use Rattle.pv_opening.specs.declared.response.Response.{Response}
use Rattle.pv_opening.specs.declared.status.Status.{Status}
use Rattle.pv_opening.specs.declared.stop.Stop.{Stop}
use Rattle.pv_cli.specs.declared.verb.Verb.{Verb}
use Rattle.pv_opening.specs.Returns.{GoesThrough}

-- reading a document that was fetched, and beginning a session on it
abbrev pub session_stage : List ℕ → PlainDtd × List ℕ → Stage PlainSession
session_stage root fetched =
    followed_by (document_stage root fetched.0 fetched.1)
    (λ opened. guarding_stage root opened.dtd opened.doc)

-- what a command line that leaves the input alone does, up to the writing of its response
abbrev pub FindsResponse : Option PlainCommandLine → ShelfNow → ShelfNow → ℕ → ℕ →
    Result Response Stop → Type 0
FindsResponse line before after checked checked_now result =
    FindsOver (files_named line) (IsDefined line) (ChecksLists line) before after checked
    checked_now result

-- what a command of this verb does once its DTD is opened and the document's bytes are fetched,
-- with the lists that were checked
pub record DoesRest {S : Type 0} (verb : Verb) (root : List ℕ) (fetched : PlainDtd × List ℕ)
    (input input_now : InputNow S) (output output_now : OutputNow) (checked checked_now : ℕ)
    (status : Status) : Type 0 where
  pub talk : GoesThrough (GoesOn verb root fetched) input input_now output output_now status
  pub checks : CountsVerb verb (judging_stage root fetched.0 fetched.1) talk.course checked
      checked_now
