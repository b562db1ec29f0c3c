-- The causes of each status: a record or a case for each.
use Rattle.std.specs.Prelude.{◌≡◌, ◌⊎◌, ◌<◌, ℕ, Bool, true, false, List, [], length, Option, Some}
use Rattle.std.specs.Prelude.{None, Ok, Err}
use Rattle.pv_chars.specs.Units.{TextMeans}
use Rattle.pv_chars.specs.declared.errors.TextError.{TextError}
use Rattle.pv_cert.specs.Meaning.{MAX_PACK_BYTES, PackMeans, is_fault, is_pack, is_past_limit}
use Rattle.pv_cert.specs.declared.packs.Pack.{Pack}
use Rattle.pv_table_check.specs.ClosedTables.{IsFirstWideTable}
use Rattle.pv_complete.specs.NeededElements.{IsHeavy, StopsAtWide}
use Rattle.pv_complete.specs.Tables.{HasTooMany}
use Rattle.pv_denial.specs.Judgements.{IsDenialJudged, IsTooWideFor}
use Rattle.pv_denial.specs.declared.denials.Denial.{Denial}
use Rattle.pv_denial.specs.declared.denials.Flaw.{Flaw}
use Rattle.pv_denial.specs.declared.denials.Judged.TheVariants as judged
use Rattle.pv_denial_text.specs.Meaning.{DenialMeans, MAX_DENIAL_BYTES, is_denial}
use Rattle.pv_denial_text.specs.Meaning.{is_fault as is_table_fault}
use Rattle.pv_denial_text.specs.Meaning.{is_past_limit as is_past_table_limit}
use Rattle.pv_deny.specs.DocumentDenials.{HasTooMany as HasTooManyValues}
use Rattle.pv_dtd.specs.Facts.{MAX_DTD_BYTES}
use Rattle.pv_dtd.specs.Kinds.{Kind as DtdKind, nesting, limit}
use Rattle.pv_dtd.specs.Meaning.{DtdTextMeans, is_dtd, faulty as faulty_dtd}
use Rattle.pv_dtd.specs.Plain.{PlainDtd}
use Rattle.pv_drill.specs.Drill.{DRILL_DTD, drill_text}
use Rattle.pv_io.specs.Causes.{CountStays, Rose}
use Rattle.pv_missing.specs.Completions.{IsPotentiallyValid}
use Rattle.pv_params.specs.Meaning.{Fault, Expands, expanded, faulty as faulty_parameters}
use Rattle.pv_missing.specs.Widths.{IsFirstTooWide}
use Rattle.pv_read.specs.Grammar.{IsDocumentText}
use Rattle.pv_read.specs.Kinds.{Kind, deep}
use Rattle.pv_read.specs.Meaning.{DocumentMeans, MAX_DOC_BYTES, faulty, too_long}
use Rattle.pv_standoff.specs.Lines.{RangesMean}
use Rattle.pv_standoff.specs.NestOutcomes.{NestMeans}
use Rattle.pv_standoff.specs.declared.errors.NestError.{NestError}
use Rattle.pv_standoff.specs.declared.errors.NestError.TheVariants.{Deep}
use Rattle.pv_standoff.specs.declared.errors.RangesError.TheVariants.{Limit as TooMany, Syntax}
use Rattle.pv_standoff.specs.declared.ranges.Range.{Range}
use Rattle.pv_tree.specs.Lists.{IsFirstNot, IsValidList, lists_of}
use Rattle.pv_tree.specs.Marks.{blank_mark}
use Rattle.pv_tree.specs.Plain.{PlainDoc}
use Rattle.pv_tree.specs.View.{view}
use Rattle.pv_tree.specs.declared.nodes.Mark.{Mark}
use Rattle.pv_verify.specs.Tests.{IsRejected}
use Rattle.pv_verify.specs.declared.answers.Why.{Why}
use Rattle.pv_cli.specs.CommandLine.{PlainCommandLine, drill, files_named, on_certificate}
use Rattle.pv_cli.specs.CommandLine.{on_document, on_dtd, on_ranges}
use Rattle.law_program.specs.Tests.{Test, validity, width, possibility, impossibility}
use Rattle.law_program.specs.Tests.{needs_of_verb, tests_width}
use Rattle.pv_opening.specs.Devices.{Devices}
use Rattle.pv_cli.specs.Drill.{DRILL_ROOT}
use Rattle.pv_opening.specs.Opening.{Files, file_at}
use Rattle.pv_opening.specs.Parameters.{is_parameters_limit}
use Rattle.pv_conversation.specs.Script.{MAX_SCRIPT_BYTES, has_long_line}
use Rattle.pv_commands.specs.Standoff.{MAX_RANGES_BYTES, MAX_TEXT_BYTES}
use Rattle.pv_cli.specs.declared.checker.Checker.{Checker}
use Rattle.pv_cli.specs.declared.checker.Checker.TheVariants.{Deny, Verify}
use Rattle.pv_opening.specs.declared.status.Status.{Status}
use Rattle.pv_opening.specs.declared.status.Status.TheVariants.{Done, Negative, Usage, ReadFault}
use Rattle.pv_opening.specs.declared.status.Status.TheVariants.{WriteFault, NoMemory, BadDtd}
use Rattle.pv_opening.specs.declared.status.Status.TheVariants.{BadDocument, BadPack, Limit}

-- a file is this text, with its parameter entities put in place
pub record HoldsText (file : Option (List ℕ)) (text : List ℕ) : Type 0 where
  pub bytes : List ℕ
  pub is_file : file ≡ Some bytes
  pub expands : Expands bytes (expanded text)

-- the texts that a command line reads: a DTD's, and a document's with the name of its root; a drill
-- has its own
abbrev pub ReadsDtd : Option PlainCommandLine → Files → List ℕ → Type 0
ReadsDtd None files text = ⊥
ReadsDtd (Some (on_dtd dtd)) files text = HoldsText (file_at 0 files) text
ReadsDtd (Some (on_document verb dtd root doc)) files text = HoldsText (file_at 0 files) text
ReadsDtd (Some (on_certificate checker dtd root doc file)) files text =
    HoldsText (file_at 0 files) text
ReadsDtd (Some (on_ranges dtd root text ranges)) files bytes = HoldsText (file_at 0 files) bytes
ReadsDtd (Some (drill n)) files text = text ≡ DRILL_DTD

abbrev pub ReadsDocument : Option PlainCommandLine → Files → List ℕ → List ℕ → Type 0
ReadsDocument None files name bytes = ⊥
ReadsDocument (Some (on_dtd dtd)) files name bytes = ⊥
ReadsDocument (Some (on_document verb dtd root doc)) files name bytes =
    (name ≡ root) × (file_at 1 files ≡ Some bytes)
ReadsDocument (Some (on_certificate checker dtd root doc file)) files name bytes =
    (name ≡ root) × (file_at 1 files ≡ Some bytes)
ReadsDocument (Some (on_ranges dtd root text ranges)) files name bytes = ⊥
ReadsDocument (Some (drill n)) files name bytes = (name ≡ DRILL_ROOT) × (bytes ≡ drill_text n)

-- a DTD and a document that a command line reads
pub record ReadsBoth (line : Option PlainCommandLine) (files : Files) (root : List ℕ) (g : PlainDtd)
    (doc : PlainDoc Mark) : Type 0 where
  pub dtd_bytes : List ℕ
  pub reads_dtd : ReadsDtd line files dtd_bytes
  pub is_dtd_text : DtdTextMeans dtd_bytes (is_dtd g)
  pub bytes : List ℕ
  pub reads_document : ReadsDocument line files root bytes
  pub is_text : IsDocumentText root bytes doc

-- a command line has a checker read a certificate of these bytes
abbrev pub ReadsCertificate : Checker → Option PlainCommandLine → Files → List ℕ → Type 0
ReadsCertificate checker None files bytes = ⊥
ReadsCertificate checker (Some (on_dtd dtd)) files bytes = ⊥
ReadsCertificate checker (Some (on_document verb dtd root doc)) files bytes = ⊥
ReadsCertificate checker (Some (on_certificate other dtd root doc file)) files bytes =
    (other ≡ checker) × (file_at 2 files ≡ Some bytes)
ReadsCertificate checker (Some (on_ranges dtd root text ranges)) files bytes = ⊥
ReadsCertificate checker (Some (drill n)) files bytes = ⊥

-- a command line reads a text of these bytes, with the name of the root that its document is to
-- have; and ranges
abbrev pub ReadsText : Option PlainCommandLine → Files → List ℕ → List ℕ → Type 0
ReadsText None files name bytes = ⊥
ReadsText (Some (on_dtd dtd)) files name bytes = ⊥
ReadsText (Some (on_document verb dtd root doc)) files name bytes = ⊥
ReadsText (Some (on_certificate checker dtd root doc file)) files name bytes = ⊥
ReadsText (Some (on_ranges dtd root text ranges)) files name bytes =
    (name ≡ root) × (file_at 1 files ≡ Some bytes)
ReadsText (Some (drill n)) files name bytes = ⊥

abbrev pub ReadsRanges : Option PlainCommandLine → Files → List ℕ → Type 0
ReadsRanges None files bytes = ⊥
ReadsRanges (Some (on_dtd dtd)) files bytes = ⊥
ReadsRanges (Some (on_document verb dtd root doc)) files bytes = ⊥
ReadsRanges (Some (on_certificate checker dtd root doc file)) files bytes = ⊥
ReadsRanges (Some (on_ranges dtd root text ranges)) files bytes = file_at 2 files ≡ Some bytes
ReadsRanges (Some (drill n)) files bytes = ⊥

-- a DTD, the name of a root, a text and ranges that a command line reads
pub record ReadsAnnotation (line : Option PlainCommandLine) (files : Files) (root : List ℕ)
    (g : PlainDtd) (text : List (List ℕ)) (ranges : List Range) : Type 0 where
  pub dtd_bytes : List ℕ
  pub reads_dtd : ReadsDtd line files dtd_bytes
  pub is_dtd_text : DtdTextMeans dtd_bytes (is_dtd g)
  pub bytes : List ℕ
  pub reads_text : ReadsText line files root bytes
  pub text_means : TextMeans bytes (Ok text)
  pub lines : List ℕ
  pub reads_ranges : ReadsRanges line files lines
  pub ranges_mean : RangesMean lines (Ok ranges)

-- a DTD, the name of a root, and the document that stands for a text and ranges under that root,
-- all of which a command line reads
pub record ReadsNested (line : Option PlainCommandLine) (files : Files) (root : List ℕ)
    (g : PlainDtd) (doc : PlainDoc Mark) : Type 0 where
  pub text : List (List ℕ)
  pub ranges : List Range
  pub reads : ReadsAnnotation line files root g text ranges
  pub nests : NestMeans root text ranges (Ok doc)

-- a DTD, a document and a pack that a command line reads
pub record ReadsPack (line : Option PlainCommandLine) (files : Files) (root : List ℕ) (g : PlainDtd)
    (doc : PlainDoc Mark) (pack : Pack) : Type 0 where
  pub both : ReadsBoth line files root g doc
  pub bytes : List ℕ
  pub reads : ReadsCertificate Verify line files bytes
  pub means : PackMeans bytes (is_pack pack)

-- a DTD, a document and a denial that a command line reads
pub record ReadsDenial (line : Option PlainCommandLine) (files : Files) (root : List ℕ)
    (g : PlainDtd) (doc : PlainDoc Mark) (denial : Denial) : Type 0 where
  pub both : ReadsBoth line files root g doc
  pub bytes : List ℕ
  pub reads : ReadsCertificate Deny line files bytes
  pub means : DenialMeans bytes (is_denial denial)

-- a command line tests this of its document: by its verb, and a drill as `session` does
abbrev pub TestsFor : Option PlainCommandLine → Test → Type 0
TestsFor None test = ⊥
TestsFor (Some (on_dtd dtd)) test = ⊥
TestsFor (Some (on_document verb dtd root doc)) test = test ≡ (needs_of_verb verb).test
TestsFor (Some (on_certificate checker dtd root doc file)) test = ⊥
TestsFor (Some (on_ranges dtd root text ranges)) test = ⊥
TestsFor (Some (drill n)) test = test ≡ width

-- a command line reads a script, by its verb
abbrev pub ReadsScript : Option PlainCommandLine → Type 0
ReadsScript None = ⊥
ReadsScript (Some (on_dtd dtd)) = ⊥
ReadsScript (Some (on_document verb dtd root doc)) = (needs_of_verb verb).script ≡ true
ReadsScript (Some (on_certificate checker dtd root doc file)) = ⊥
ReadsScript (Some (on_ranges dtd root text ranges)) = ⊥
ReadsScript (Some (drill n)) = ⊥

-- a command line makes tables of weights, by its verb
abbrev pub NeedsTables : Option PlainCommandLine → Type 0
NeedsTables None = ⊥
NeedsTables (Some (on_dtd dtd)) = ⊥
NeedsTables (Some (on_document verb dtd root doc)) = (needs_of_verb verb).tables ≡ true
NeedsTables (Some (on_certificate checker dtd root doc file)) = ⊥
NeedsTables (Some (on_ranges dtd root text ranges)) = ⊥
NeedsTables (Some (drill n)) = ⊥

-- whether a first fault is a limit that is passed
abbrev pub is_dtd_limit : DtdKind → Bool
is_dtd_limit limit = true
is_dtd_limit nesting = true
is_dtd_limit other = false

abbrev pub is_document_limit : Kind → Bool
is_document_limit deep = true
is_document_limit other = false

-- status 6: the first fault of the parameter entities of the DTD's file
pub record HasBadParameters (files : Files) : Type 0 where
  pub bytes : List ℕ
  pub is_file : file_at 0 files ≡ Some bytes
  pub fault : Fault
  pub expands : Expands bytes (faulty_parameters fault)
  pub no_limit : is_parameters_limit fault ≡ false

-- or the DTD's first fault
pub record IsBadDtd (line : Option PlainCommandLine) (files : Files) : Type 0 where
  pub bytes : List ℕ
  pub reads : ReadsDtd line files bytes
  pub kind : DtdKind
  pub items : ℕ
  pub means : DtdTextMeans bytes (faulty_dtd kind items)
  pub no_limit : is_dtd_limit kind ≡ false

-- status 7: the document's first fault
pub record IsBadDocument (line : Option PlainCommandLine) (files : Files) : Type 0 where
  pub root : List ℕ
  pub bytes : List ℕ
  pub reads : ReadsDocument line files root bytes
  pub kind : Kind
  pub items : ℕ
  pub means : DocumentMeans blank_mark root bytes (faulty kind items)
  pub no_limit : is_document_limit kind ≡ false

-- status 7: or the text's first fault
pub record IsBadText (line : Option PlainCommandLine) (files : Files) : Type 0 where
  pub root : List ℕ
  pub bytes : List ℕ
  pub reads : ReadsText line files root bytes
  pub fault : TextError
  pub means : TextMeans bytes (Err fault)

-- status 9: the first line of ranges that is none
pub record IsBadRanges (line : Option PlainCommandLine) (files : Files) : Type 0 where
  pub bytes : List ℕ
  pub reads : ReadsRanges line files bytes
  pub lines : ℕ
  pub means : RangesMean bytes (Err (Syntax lines))

-- or the first that is outside, twice or crosses another
pub record AreUnnested (line : Option PlainCommandLine) (files : Files) : Type 0 where
  pub root : List ℕ
  pub g : PlainDtd
  pub text : List (List ℕ)
  pub ranges : List Range
  pub reads : ReadsAnnotation line files root g text ranges
  pub fault : NestError
  pub means : NestMeans root text ranges (Err fault)
  pub no_limit : fault ≡ Deep → ⊥

-- status 9: the pack's first line at fault
pub record IsBadPack (line : Option PlainCommandLine) (files : Files) : Type 0 where
  pub bytes : List ℕ
  pub reads : ReadsCertificate Verify line files bytes
  pub lines : ℕ
  pub means : PackMeans bytes (is_fault lines)

-- status 9: the denial's first line at fault
pub record IsBadDenial (line : Option PlainCommandLine) (files : Files) : Type 0 where
  pub bytes : List ℕ
  pub reads : ReadsCertificate Deny line files bytes
  pub lines : ℕ
  pub means : DenialMeans bytes (is_table_fault lines)

-- status 8: a limit is passed, by a file, by the parameter entities, in the DTD or the document, by
-- a list where the width of lists is tested, by a list, the missing elements or the entries where
-- tables are made, by the values of a denial that is made, by a pack or a list that it names, by a
-- denial or its list, by a text, by ranges or the document that stands for them, or by a script
pub data PassesLimit (line : Option PlainCommandLine) (files : Files) (taken : Option (List ℕ)) :
    Type 0 where
  dtd_file : (bytes : List ℕ) → file_at 0 files ≡ Some bytes → MAX_DTD_BYTES < length bytes →
      PassesLimit line files taken
  document_file : (bytes : List ℕ) → file_at 1 files ≡ Some bytes → MAX_DOC_BYTES < length bytes →
      PassesLimit line files taken
  parameters : (bytes : List ℕ) (fault : Fault) → file_at 0 files ≡ Some bytes →
      Expands bytes (faulty_parameters fault) → is_parameters_limit fault ≡ true →
      PassesLimit line files taken
  in_dtd : (bytes : List ℕ) (kind : DtdKind) (items : ℕ) → ReadsDtd line files bytes →
      DtdTextMeans bytes (faulty_dtd kind items) → is_dtd_limit kind ≡ true →
      PassesLimit line files taken
  in_document : (root bytes : List ℕ) (kind : Kind) (items : ℕ) →
      ReadsDocument line files root bytes →
      DocumentMeans blank_mark root bytes (faulty kind items) → is_document_limit kind ≡ true →
      PassesLimit line files taken
  document_bytes : (root bytes : List ℕ) → ReadsDocument line files root bytes →
      DocumentMeans blank_mark root bytes too_long → PassesLimit line files taken
  list_width : (root : List ℕ) (g : PlainDtd) (doc : PlainDoc Mark) (path : List ℕ) (test : Test) →
      TestsFor line test → tests_width test ≡ true → ReadsBoth line files root g doc →
      IsFirstTooWide g (lists_of doc) path → PassesLimit line files taken
  weights_width : (root : List ℕ) (g : PlainDtd) (doc : PlainDoc Mark) (path : List ℕ) →
      NeedsTables line → ReadsBoth line files root g doc → StopsAtWide g root doc path →
      PassesLimit line files taken
  missing_elements : (root : List ℕ) (g : PlainDtd) (doc : PlainDoc Mark) →
      NeedsTables line → ReadsBoth line files root g doc → IsHeavy g root doc →
      PassesLimit line files taken
  table_entries : (root : List ℕ) (g : PlainDtd) (doc : PlainDoc Mark) →
      NeedsTables line → ReadsBoth line files root g doc → HasTooMany g root doc →
      PassesLimit line files taken
  denial_values : (root : List ℕ) (g : PlainDtd) (doc : PlainDoc Mark) →
      TestsFor line impossibility → ReadsBoth line files root g doc →
      HasTooManyValues g root doc → PassesLimit line files taken
  pack_file : (bytes : List ℕ) → ReadsCertificate Verify line files bytes →
      MAX_PACK_BYTES < length bytes → PassesLimit line files taken
  in_pack : (bytes : List ℕ) → ReadsCertificate Verify line files bytes →
      PackMeans bytes is_past_limit → PassesLimit line files taken
  pack_width : (root : List ℕ) (g : PlainDtd) (doc : PlainDoc Mark) (pack : Pack)
      (path : List ℕ) → ReadsPack line files root g doc pack →
      IsFirstWideTable g (lists_of doc) pack.tables path → PassesLimit line files taken
  denial_file : (bytes : List ℕ) → ReadsCertificate Deny line files bytes →
      MAX_DENIAL_BYTES < length bytes → PassesLimit line files taken
  in_denial : (bytes : List ℕ) → ReadsCertificate Deny line files bytes →
      DenialMeans bytes is_past_table_limit → PassesLimit line files taken
  denial_width : (root : List ℕ) (g : PlainDtd) (doc : PlainDoc Mark) (denial : Denial) →
      ReadsDenial line files root g doc denial → IsTooWideFor g doc denial →
      PassesLimit line files taken
  text_file : (root bytes : List ℕ) → ReadsText line files root bytes →
      MAX_TEXT_BYTES < length bytes → PassesLimit line files taken
  ranges_file : (bytes : List ℕ) → ReadsRanges line files bytes →
      MAX_RANGES_BYTES < length bytes → PassesLimit line files taken
  range_lines : (bytes : List ℕ) → ReadsRanges line files bytes →
      RangesMean bytes (Err TooMany) → PassesLimit line files taken
  nested_depth : (root : List ℕ) (g : PlainDtd) (text : List (List ℕ)) (ranges : List Range) →
      ReadsAnnotation line files root g text ranges → NestMeans root text ranges (Err Deep) →
      PassesLimit line files taken
  nested_width : (root : List ℕ) (g : PlainDtd) (doc : PlainDoc Mark) (path : List ℕ) →
      ReadsNested line files root g doc → IsFirstTooWide g (lists_of doc) path →
      PassesLimit line files taken
  script_line : (script : List ℕ) → ReadsScript line → taken ≡ Some script →
      has_long_line script ≡ true → PassesLimit line files taken
  whole_script : (script : List ℕ) → ReadsScript line → taken ≡ Some script →
      MAX_SCRIPT_BYTES < length script → PassesLimit line files taken

-- status 1: what the command line tests of its document doesn't hold. A list of it isn't valid;
-- inserting elements can't make it valid, or where it asks why they can't, they can; they can't
-- make the document valid that stands for its text and ranges. Or its pack or denial fails a test.
pub data IsNegative (line : Option PlainCommandLine) (files : Files) : Type 0 where
  not_valid : (root : List ℕ) (g : PlainDtd) (doc : PlainDoc Mark) (path : List ℕ) →
      TestsFor line validity → ReadsBoth line files root g doc →
      IsFirstNot (IsValidList g root) (lists_of doc) path → IsNegative line files
  not_possible : (root : List ℕ) (g : PlainDtd) (doc : PlainDoc Mark) →
      TestsFor line possibility → ReadsBoth line files root g doc →
      (IsPotentiallyValid g root (view doc.root) → ⊥) → IsNegative line files
  can_be_valid : (root : List ℕ) (g : PlainDtd) (doc : PlainDoc Mark) →
      TestsFor line impossibility → ReadsBoth line files root g doc →
      IsPotentiallyValid g root (view doc.root) → IsNegative line files
  nested_impossible : (root : List ℕ) (g : PlainDtd) (doc : PlainDoc Mark) →
      ReadsNested line files root g doc → (IsPotentiallyValid g root (view doc.root) → ⊥) →
      IsNegative line files
  not_accepted : (root : List ℕ) (g : PlainDtd) (doc : PlainDoc Mark) (pack : Pack) (test : Why) →
      ReadsPack line files root g doc pack → IsRejected g root doc pack test →
      IsNegative line files
  not_denied : (root : List ℕ) (g : PlainDtd) (doc : PlainDoc Mark) (denial : Denial)
      (flaw : Flaw) → ReadsDenial line files root g doc denial →
      IsDenialJudged g root doc denial (judged.Rejected flaw) → IsNegative line files

-- status 3: the shelf failed, which a command line asks only where it names files; or the input
-- failed, which it asks only where it reads a script
pub data HasReadFault {S : Type 0} (line : Option PlainCommandLine) (before after : Devices S) :
    Type 0 where
  of_shelf : (files_named line ≡ [] → ⊥) → Rose before.shelf.faults after.shelf.faults →
      HasReadFault line before after
  of_input : ReadsScript line → Rose before.input.faults after.input.faults →
      HasReadFault line before after

-- What a response of each status says of the files and the script; a fault of a device and want of
-- memory have no response. Status 0 has no cause here: what it says is told by the defined answer
-- alone (`IsDefined`).
abbrev pub RespondsBy : Option PlainCommandLine → Files → Option (List ℕ) → Status → Type 0
RespondsBy line files taken Done = Unit {0}
RespondsBy line files taken Negative = IsNegative line files
RespondsBy line files taken Usage = line ≡ None
RespondsBy line files taken ReadFault = ⊥
RespondsBy line files taken WriteFault = ⊥
RespondsBy line files taken NoMemory = ⊥
RespondsBy line files taken BadDtd = IsBadDtd line files ⊎ HasBadParameters files
RespondsBy line files taken BadDocument = IsBadDocument line files ⊎ IsBadText line files
RespondsBy line files taken Limit = PassesLimit line files taken
RespondsBy line files taken BadPack =
    IsBadPack line files ⊎ IsBadRanges line files ⊎ AreUnnested line files ⊎ IsBadDenial line files

-- the cause of each status, in the files, the script or the devices; want of memory is free
abbrev pub HasCause : {S : Type 0} → Option PlainCommandLine → Files → Option (List ℕ) → Devices S →
    Devices S → Status → Type 0
HasCause line files taken before after ReadFault = HasReadFault line before after
HasCause line files taken before after WriteFault =
    Rose before.output.faults after.output.faults
HasCause line files taken before after NoMemory = Unit {0}
HasCause line files taken before after status = RespondsBy line files taken status

-- of any two counts of faults one stayed
pub record OneRoseAtMost {S : Type 0} (before after : Devices S) : Type 0 where
  pub shelf_or_input : CountStays before.shelf.faults after.shelf.faults ⊎
      CountStays before.input.faults after.input.faults
  pub shelf_or_output : CountStays before.shelf.faults after.shelf.faults ⊎
      CountStays before.output.faults after.output.faults
  pub input_or_output : CountStays before.input.faults after.input.faults ⊎
      CountStays before.output.faults after.output.faults
