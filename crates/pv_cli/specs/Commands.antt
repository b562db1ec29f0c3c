-- The commands on a DTD and a document, a line for each verb, and those that check a certificate.
use Rattle.std.specs.Prelude.{ℕ, List}
use Rattle.pv_dtd.specs.Plain.{PlainDtd}
use Rattle.pv_commands.specs.Check.{IsCheckCourse}
use Rattle.pv_commands.specs.Complete.{IsCompleteCourse}
use Rattle.pv_opening.specs.Course.{Course}
use Rattle.pv_commands.specs.Deny.{IsDenyCourse}
use Rattle.pv_opening.specs.Documents.{PlainOpened, document_stage}
use Rattle.pv_opening.specs.Opening.{Files, opening_stage}
use Rattle.pv_conversation.specs.Session.{IsSessionCourse}
use Rattle.pv_opening.specs.Stage.{Behind}
use Rattle.pv_commands.specs.Valid.{IsValidCourse}
use Rattle.pv_commands.specs.Verify.{IsVerifyCourse}
use Rattle.pv_commands.specs.Why.{IsWhyCourse}
use Rattle.pv_cli.specs.declared.checker.Checker.{Checker}
use Rattle.pv_cli.specs.declared.checker.Checker.TheVariants.{Deny, Verify}
use Rattle.pv_cli.specs.declared.verb.Verb.{Verb}
use Rattle.pv_cli.specs.declared.verb.Verb.TheVariants.{Valid, Check, Session, Complete, Why}

-- what each verb does after the opened files
abbrev pub VerbTells : Verb → List ℕ → PlainOpened → Course → Type 0
VerbTells Valid root opened = IsValidCourse root opened
VerbTells Check root opened = IsCheckCourse root opened
VerbTells Session root opened = IsSessionCourse root opened
VerbTells Complete root opened = IsCompleteCourse root opened
VerbTells Why root opened = IsWhyCourse root opened

-- a command on a document: its files are opened, and then it does what its verb does
abbrev pub IsDocumentCourse : Verb → List ℕ → Files → Course → Type 0
IsDocumentCourse verb root files = Behind (opening_stage root files) (VerbTells verb root)

-- a command on a document, once the DTD is opened and the document's bytes are fetched
abbrev pub GoesOn : Verb → List ℕ → PlainDtd × List ℕ → Course → Type 0
GoesOn verb root fetched = Behind (document_stage root fetched.0 fetched.1) (VerbTells verb root)

-- a command on a certificate, over its files
abbrev pub IsCheckerCourse : Checker → List ℕ → Files → Course → Type 0
IsCheckerCourse Verify root files = IsVerifyCourse root files
IsCheckerCourse Deny root files = IsDenyCourse root files
