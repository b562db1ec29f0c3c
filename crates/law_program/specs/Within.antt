-- When the words are a command, and its files and its script are within their grammars and limits;
-- and what is answered then.
use Rattle.std.specs.Prelude.{◌≡◌, ◌⊎◌, ◌≤◌, ℕ, Bool, true, false, List, length, Option, Some, None}
use Rattle.std.specs.Prelude.{Ok}
use Rattle.pv_cert.specs.Meaning.{PackMeans, is_pack}
use Rattle.pv_cert.specs.declared.packs.Pack.{Pack}
use Rattle.pv_chars.specs.Units.{TextMeans}
use Rattle.pv_denial.specs.declared.denials.Denial.{Denial}
use Rattle.pv_denial_text.specs.Meaning.{DenialMeans, is_denial}
use Rattle.pv_dtd.specs.Facts.{MAX_DTD_BYTES}
use Rattle.pv_dtd.specs.Meaning.{DtdTextMeans, is_dtd}
use Rattle.pv_dtd.specs.Plain.{PlainDtd}
use Rattle.pv_io.specs.Causes.{Rose}
use Rattle.pv_params.specs.Meaning.{Expands, expanded}
use Rattle.pv_read.specs.Meaning.{DocumentMeans, MAX_DOC_BYTES, is_document}
use Rattle.pv_standoff.specs.Lines.{RangesMean}
use Rattle.pv_standoff.specs.NestOutcomes.{NestMeans}
use Rattle.pv_standoff.specs.declared.ranges.Range.{Range}
use Rattle.pv_tree.specs.Marks.{blank_mark}
use Rattle.pv_tree.specs.Plain.{PlainDoc}
use Rattle.pv_tree.specs.declared.nodes.Mark.{Mark}
use Rattle.law_program.specs.Causes.{IsNegative, PassesLimit, ReadsAnnotation, ReadsCertificate}
use Rattle.law_program.specs.Causes.{ReadsDocument, ReadsDtd, ReadsRanges, ReadsScript, ReadsText}
use Rattle.law_program.specs.Causes.{list_width, weights_width, missing_elements, table_entries}
use Rattle.law_program.specs.Causes.{denial_values, pack_width, denial_width, nested_width}
use Rattle.pv_cli.specs.CommandLine.{PlainCommandLine}
use Rattle.pv_opening.specs.Devices.{Devices}
use Rattle.pv_cli.specs.Headline.{HadNoMemory}
use Rattle.pv_opening.specs.Opening.{Files, file_at}
use Rattle.pv_cli.specs.Program.{Runs}
use Rattle.pv_conversation.specs.Script.{IsWithin}
use Rattle.pv_commands.specs.Standoff.{MAX_RANGES_BYTES, MAX_TEXT_BYTES}
use Rattle.pv_cli.specs.declared.checker.Checker.TheVariants.{Deny, Verify}
use Rattle.pv_opening.specs.declared.status.Status.{Status}
use Rattle.pv_opening.specs.declared.status.Status.TheVariants.{Done, Limit, Negative}

-- the DTD's file is short enough, and its parameter entities can be put in place
pub record CanBeExpanded (bytes : List ℕ) : Type 0 where
  pub short : length bytes ≤ MAX_DTD_BYTES
  pub text : List ℕ
  pub expands : Expands bytes (expanded text)

-- a text is a DTD
pub record IsSomeDtd (text : List ℕ) : Type 0 where
  pub g : PlainDtd
  pub means : DtdTextMeans text (is_dtd g)

-- bytes are a document whose root has this name
pub record IsSomeDocument (root bytes : List ℕ) : Type 0 where
  pub doc : PlainDoc Mark
  pub means : DocumentMeans blank_mark root bytes (is_document doc)

-- bytes are a pack
pub record IsSomePack (bytes : List ℕ) : Type 0 where
  pub pack : Pack
  pub means : PackMeans bytes (is_pack pack)

-- bytes are a denial
pub record IsSomeDenial (bytes : List ℕ) : Type 0 where
  pub denial : Denial
  pub means : DenialMeans bytes (is_denial denial)

-- bytes are a text
pub record IsSomeText (bytes : List ℕ) : Type 0 where
  pub short : length bytes ≤ MAX_TEXT_BYTES
  pub units : List (List ℕ)
  pub means : TextMeans bytes (Ok units)

-- bytes are ranges
pub record AreSomeRanges (bytes : List ℕ) : Type 0 where
  pub short : length bytes ≤ MAX_RANGES_BYTES
  pub ranges : List Range
  pub mean : RangesMean bytes (Ok ranges)

-- a document stands for a text and ranges under a root
pub record CanBeNested (root : List ℕ) (text : List (List ℕ)) (ranges : List Range) : Type 0 where
  pub doc : PlainDoc Mark
  pub nests : NestMeans root text ranges (Ok doc)

-- the words are a command, and whatever it reads is within its grammar and its limits
pub record IsAllWithin (line : Option PlainCommandLine) (files : Files) (taken : Option (List ℕ)) :
    Type 0 where
  pub command : line ≡ None → ⊥
  pub dtd_file : (bytes : List ℕ) → file_at 0 files ≡ Some bytes → CanBeExpanded bytes
  pub second_file : (bytes : List ℕ) → file_at 1 files ≡ Some bytes →
      length bytes ≤ MAX_DOC_BYTES
  pub dtd : (text : List ℕ) → ReadsDtd line files text → IsSomeDtd text
  pub document : (root bytes : List ℕ) → ReadsDocument line files root bytes →
      IsSomeDocument root bytes
  pub pack : (bytes : List ℕ) → ReadsCertificate Verify line files bytes → IsSomePack bytes
  pub denial : (bytes : List ℕ) → ReadsCertificate Deny line files bytes → IsSomeDenial bytes
  pub text : (root bytes : List ℕ) → ReadsText line files root bytes → IsSomeText bytes
  pub ranges : (bytes : List ℕ) → ReadsRanges line files bytes → AreSomeRanges bytes
  pub nested : (root : List ℕ) (g : PlainDtd) (text : List (List ℕ)) (ranges : List Range) →
      ReadsAnnotation line files root g text ranges → CanBeNested root text ranges
  pub script : (bytes : List ℕ) → ReadsScript line → taken ≡ Some bytes → IsWithin bytes

-- whether a limit is passed by a list, by the missing elements, or by the entries of tables or the
-- values of a denial that are made
abbrev pub is_of_lists : {line : Option PlainCommandLine} {files : Files}
    {taken : Option (List ℕ)} → PassesLimit line files taken → Bool
is_of_lists (list_width root g doc path test tests wide reads first) = true
is_of_lists (weights_width root g doc path makes reads stops) = true
is_of_lists (missing_elements root g doc makes reads heavy) = true
is_of_lists (table_entries root g doc makes reads many) = true
is_of_lists (denial_values root g doc tests reads many) = true
is_of_lists (pack_width root g doc pack path reads first) = true
is_of_lists (denial_width root g doc denial reads wide) = true
is_of_lists (nested_width root g doc path reads first) = true
is_of_lists other = false

-- status 8 because of these
pub record PassesLimitOfLists (line : Option PlainCommandLine) (files : Files)
    (taken : Option (List ℕ)) : Type 0 where
  pub limit : PassesLimit line files taken
  pub is_of_lists : is_of_lists limit ≡ true

-- an answer: what was asked was done, it is no, or a limit of lists is passed
abbrev pub IsAnswered : Option PlainCommandLine → Files → Option (List ℕ) → Status → Type 0
IsAnswered line files taken status = (status ≡ Done) ⊎ ((status ≡ Negative) × IsNegative line files)
    ⊎ ((status ≡ Limit) × PassesLimitOfLists line files taken)

-- Where the words are a command, what it reads is within its grammars and limits, and no device
-- failed, there is an answer, or there was no memory and nothing was written.
abbrev pub AnswersWithin : Type 0 → Type 0
AnswersWithin S = (line : Option PlainCommandLine) (before after : Devices S) (status : Status)
    (run : Runs line before after status) →
    (Rose before.shelf.faults after.shelf.faults → ⊥) →
    (Rose before.input.faults after.input.faults → ⊥) →
    (Rose before.output.faults after.output.faults → ⊥) →
    IsAllWithin line run.files run.course.taken →
    HadNoMemory before after status ⊎ IsAnswered line run.files run.course.taken status
