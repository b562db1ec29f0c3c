-- Laws on what the program does.
use Rattle.std.specs.Prelude.{◌≡◌, ℕ, List, ◌++◌, codes, decimal, Option, Some}
use Rattle.std.specs.Io.KnownBytes.{Appends}
use Rattle.pv_cert.specs.declared.packs.Pack.{Pack}
use Rattle.pv_denial.specs.declared.denials.Denial.{Denial}
use Rattle.pv_dtd.specs.Plain.{PlainDtd}
use Rattle.pv_io.specs.Causes.{CountStays}
use Rattle.pv_missing.specs.Completions.{IsPotentiallyValid}
use Rattle.pv_words.specs.Paths.{path_text}
use Rattle.pv_tree.specs.Plain.{PlainDoc}
use Rattle.pv_tree.specs.View.{view}
use Rattle.pv_tree.specs.declared.nodes.Mark.{Mark}
use Rattle.pv_verify.specs.Laws.{IsLeastPack}
use Rattle.pv_cli.specs.declared.checker.Checker.TheVariants.{Deny, Verify}
use Rattle.pv_opening.specs.declared.status.Status.{Status}
use Rattle.pv_opening.specs.declared.status.Status.TheVariants.{Done, ReadFault, WriteFault}
use Rattle.law_program.specs.Alike.{RespondsAlike}
use Rattle.law_program.specs.Causes.{HasCause, OneRoseAtMost, ReadsDenial, ReadsPack}
use Rattle.pv_cli.specs.CommandLine.{PlainCommandLine, on_certificate}
use Rattle.pv_opening.specs.Course.{Course, responds}
use Rattle.pv_opening.specs.Opening.{Files}
use Rattle.pv_opening.specs.Devices.{Devices}
use Rattle.pv_cli.specs.Program.{IsDefined, Runs}
use Rattle.pv_opening.specs.Response.{PlainResponse}

-- over given files, and where what was taken from the input and the lines that there was no memory
-- for are given, a command has one response, but for the documents of completions in a session
abbrev pub HasOneResponse : Type 0
HasOneResponse = (line : Option PlainCommandLine) (files : Files) (course other : Course)
    (r also : PlainResponse) →
    IsDefined line files course → IsDefined line files other → course.taken ≡ other.taken →
    course.silent ≡ other.silent →
    course.ending ≡ responds r → other.ending ≡ responds also → RespondsAlike line r also

-- the count of the output rises with status 4 alone, and those of the shelf and the input with
-- status 3 alone
pub record CountsStay {S : Type 0} (before after : Devices S) (status : Status) : Type 0 where
  pub output : (status ≡ WriteFault → ⊥) → CountStays before.output.faults after.output.faults
  pub shelf : (status ≡ ReadFault → ⊥) → CountStays before.shelf.faults after.shelf.faults
  pub input : (status ≡ ReadFault → ⊥) → CountStays before.input.faults after.input.faults

abbrev pub FaultsShow : Type 0 → Type 0
FaultsShow S = (line : Option PlainCommandLine) (before after : Devices S) (status : Status) →
    Runs line before after status → CountsStay before after status

-- each status comes only by its cause
abbrev pub ComesByCause : Type 0 → Type 0
ComesByCause S = (line : Option PlainCommandLine) (before after : Devices S) (status : Status)
    (run : Runs line before after status) →
    HasCause line run.files run.course.taken before after status

-- at most one count of faults rises
abbrev pub RaisesOneAtMost : Type 0 → Type 0
RaisesOneAtMost S = (line : Option PlainCommandLine) (before after : Devices S) (status : Status) →
    Runs line before after status → OneRoseAtMost before after

-- A run read a DTD, a document and a pack, and wrote `accepted K`: K is the least number of
-- elements whose insertion makes the document valid, and the pack's body is the text of a
-- completion of the document by so many.
pub record ShowsLeast {S : Type 0} (line : Option PlainCommandLine) (files : Files)
    (root : List ℕ) (before after : Devices S) : Type 0 where
  pub dtd : PlainDtd
  pub doc : PlainDoc Mark
  pub pack : Pack
  pub reads : ReadsPack line files root dtd doc pack
  pub least : IsLeastPack dtd root doc pack
  pub written : Appends before.output.written after.output.written
      (codes "accepted " ++ decimal pack.total ++ codes "\n")

-- whatever run of `verify` ends with status 0 shows so, whoever made the pack
abbrev pub AcceptsLeast : Type 0 → Type 0
AcceptsLeast S = (dtd root doc file : List ℕ) (before after : Devices S)
    (run : Runs (Some (on_certificate Verify dtd root doc file)) before after Done) →
    ShowsLeast (Some (on_certificate Verify dtd root doc file)) run.files root before after

-- A run read a DTD, a document and a denial, and wrote `denied PATH` with the denial's path: no
-- insertions make the document valid.
pub record ShowsImpossible {S : Type 0} (line : Option PlainCommandLine) (files : Files)
    (root : List ℕ) (before after : Devices S) : Type 0 where
  pub dtd : PlainDtd
  pub doc : PlainDoc Mark
  pub denial : Denial
  pub reads : ReadsDenial line files root dtd doc denial
  pub impossible : ¬ IsPotentiallyValid dtd root (view doc.root)
  pub written : Appends before.output.written after.output.written
      (codes "denied " ++ path_text denial.path ++ codes "\n")

-- whatever run of `deny` ends with status 0 shows so, whoever made the denial
abbrev pub DeniesImpossible : Type 0 → Type 0
DeniesImpossible S = (dtd root doc file : List ℕ) (before after : Devices S)
    (run : Runs (Some (on_certificate Deny dtd root doc file)) before after Done) →
    ShowsImpossible (Some (on_certificate Deny dtd root doc file)) run.files root before after
