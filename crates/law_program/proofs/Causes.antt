-- The causes of each status.
use Rattle.std.proofs.Common.{◌≡◌, inl, inr, ℕ, List, [], ◌∷◌, Option, Some, None, ap, refl, sym}
use Rattle.std.proofs.Common.{◌∙◌, subst}
use Rattle.pv_dtd.specs.Meaning.{DtdTextMeans, is_dtd}
use Rattle.pv_dtd.specs.Plain.{PlainDtd}
use Rattle.pv_drill.specs.Drill.{DRILL_DTD, drill_text}
use Rattle.law_program.specs.Causes.{ReadsScript, HasCause, OneRoseAtMost, ReadsBoth, RespondsBy}
use Rattle.law_program.specs.Causes.{of_input, of_shelf}
use Rattle.pv_commands.specs.Certificates.{certificate_stage}
use Rattle.pv_commands.specs.Complete.{TellsPack}
use Rattle.pv_cli.specs.CommandLine.{PlainCommandLine, drill, files_named, on_certificate}
use Rattle.pv_cli.specs.CommandLine.{on_document, on_dtd, on_ranges}
use Rattle.pv_cli.specs.Commands.{VerbTells}
use Rattle.law_program.specs.Tests.{impossibility, possibility}
use Rattle.pv_opening.specs.Course.{Course, RunEnding, input_fault, no_memory, output_fault}
use Rattle.pv_opening.specs.Course.{responds, shelf_fault}
use Rattle.pv_commands.specs.DenialFiles.{denial_file_stage}
use Rattle.pv_commands.specs.Deny.{TellsJudgement}
use Rattle.pv_opening.specs.Devices.{Devices}
use Rattle.pv_opening.specs.Documents.{PlainOpened}
use Rattle.pv_cli.specs.Drill.{DRILL_ROOT, TellsCounts, drill_stage}
use Rattle.pv_commands.specs.Dtd.{TellsDtd}
use Rattle.law_program.specs.Laws.{ComesByCause, RaisesOneAtMost}
use Rattle.pv_opening.specs.Opening.{Files, dtd_file_stage, file_at, opening_stage}
use Rattle.pv_commands.specs.PackFiles.{pack_file_stage}
use Rattle.pv_opening.specs.Possibility.{TellsPossibility, possibility_stage, width_stage}
use Rattle.pv_opening.specs.ShownCourses.{CountsInput, CountsShelf, WritesEnding, cut_off, wrote}
use Rattle.pv_cli.specs.Program.{IsDefined}
use Rattle.pv_opening.specs.Response.{PlainResponse}
use Rattle.pv_conversation.specs.Session.{Converses, guarding_stage}
use Rattle.pv_opening.specs.Stage.{Stage, Behind, Responds, opened, refused, responded}
use Rattle.pv_opening.specs.Stage.{short_of_memory, short_of_memory as out_of_memory, stopped}
use Rattle.pv_commands.specs.Standoff.{IsShownCourse, TellsNested, nested_stage}
use Rattle.pv_commands.specs.Valid.{TellsValidity}
use Rattle.pv_commands.specs.Verify.{TellsOfPack}
use Rattle.pv_commands.specs.Why.{TellsWhy}
use Rattle.pv_cli.specs.declared.checker.Checker.TheVariants.{Deny, Verify}
use Rattle.pv_opening.specs.declared.status.Status.{Status}
use Rattle.pv_opening.specs.declared.status.Status.TheVariants.{Done, Negative, Usage, ReadFault}
use Rattle.pv_opening.specs.declared.status.Status.TheVariants.{WriteFault, NoMemory, BadDtd}
use Rattle.pv_opening.specs.declared.status.Status.TheVariants.{BadDocument, BadPack, Limit}
use Rattle.pv_cli.specs.declared.verb.Verb.{Verb}
use Rattle.pv_cli.specs.declared.verb.Verb.TheVariants.{Valid, Check, Session, Complete, Why}
use Rattle.law_program.proofs.AnnotationCauses.{nested_refused, shown_told}
use Rattle.law_program.proofs.CertificateCauses.{verify_refused, verify_told}
use Rattle.law_program.proofs.DenialCauses.{deny_refused, deny_told, why_told}
use Rattle.law_program.proofs.ResponseCauses.{behind_by, by_status, document_refused, dtd_refused}
use Rattle.law_program.proofs.ResponseCauses.{file_refused, guarding_refused, opening_reads}
use Rattle.law_program.proofs.ResponseCauses.{opening_refused, pack_told, possibility_refused}
use Rattle.law_program.proofs.ResponseCauses.{possibility_told, responds_by, session_by}
use Rattle.law_program.proofs.ResponseCauses.{validity_told, width_refused}

-- a line for each verb
verb_by : (verb : Verb) (dtd root doc : List ℕ) (files : Files) (o : PlainOpened) (course : Course)
    (r : PlainResponse) → ReadsBoth (Some (on_document verb dtd root doc)) files root o.dtd o.doc →
    VerbTells verb root o course → course.ending ≡ responds r →
    RespondsBy (Some (on_document verb dtd root doc)) files course.taken r.status
verb_by Valid dtd root doc files o course r both tells at =
    validity_told (Some (on_document Valid dtd root doc)) files course.taken root o.dtd o.doc both r
    refl (responds_by (TellsValidity root o.dtd o.doc) course r tells at)
verb_by Check dtd root doc files o course r both tells at =
    behind_by (width_stage o.dtd o.doc) (λ _. Responds (TellsPossibility root o.dtd o.doc))
    (λ s. RespondsBy (Some (on_document Check dtd root doc)) files course.taken s.status) course r
    (λ s k wide. width_refused (Some (on_document Check dtd root doc)) files course.taken root o.dtd
    o.doc both s possibility refl refl wide.0)
    (λ u k rest narrow told same ends. possibility_told (Some (on_document Check dtd root doc))
    files course.taken root o.dtd o.doc both r refl
    (responds_by (TellsPossibility root o.dtd o.doc) rest r told ends)) tells at
verb_by Session dtd root doc files o course r both tells at =
    behind_by (guarding_stage root o.dtd o.doc) Converses
    (λ s. RespondsBy (Some (on_document Session dtd root doc)) files course.taken s.status) course r
    (λ s k denies. guarding_refused (Some (on_document Session dtd root doc)) files course.taken
    root o.dtd o.doc both s refl k denies)
    (λ s k rest begun talk same ends. subst
    (λ (t : Option (List ℕ)). RespondsBy (Some (on_document Session dtd root doc)) files t r.status)
    same
    (session_by (Some (on_document Session dtd root doc)) files s rest r refl talk ends)) tells at
verb_by Complete dtd root doc files o course r both tells at =
    behind_by (possibility_stage root o.dtd o.doc) (λ _. Responds (TellsPack root o.dtd o.doc))
    (λ s. RespondsBy (Some (on_document Complete dtd root doc)) files course.taken s.status) course
    r
    (λ s k denies. possibility_refused (Some (on_document Complete dtd root doc)) files course.taken
    root o.dtd o.doc both s refl k denies)
    (λ u k rest can told same ends. pack_told (Some (on_document Complete dtd root doc)) files
    course.taken root o.dtd o.doc both r refl refl
    (responds_by (TellsPack root o.dtd o.doc) rest r told ends)) tells at
verb_by Why dtd root doc files o course r both tells at =
    behind_by (width_stage o.dtd o.doc) (λ _. Responds (TellsWhy root o.dtd o.doc))
    (λ s. RespondsBy (Some (on_document Why dtd root doc)) files course.taken s.status) course r
    (λ s k wide. width_refused (Some (on_document Why dtd root doc)) files course.taken root o.dtd
    o.doc both s impossibility refl refl wide.0)
    (λ u k rest narrow told same ends. why_told (Some (on_document Why dtd root doc)) files
    course.taken root o.dtd o.doc both r refl
    (responds_by (TellsWhy root o.dtd o.doc) rest r told ends)) tells at

drill_refused : (n : ℕ) (files : Files) (taken : Option (List ℕ)) (r : PlainResponse) (k : ℕ) →
    (drill_stage n).Refuses r k → RespondsBy (Some (drill n)) files taken r.status
drill_refused n files taken r k (inl (inl denies)) =
    dtd_refused (Some (drill n)) files taken _ r refl denies.0
drill_refused n files taken r k (inl (inr (g, i, j, means, denies, e))) =
    document_refused (Some (drill n)) files taken DRILL_ROOT _ r (refl, refl) denies.0
drill_refused n files taken r k (inr (o, i, j, (g, a, b, means, read, f), denies, e)) =
    let both : ReadsBoth (Some (drill n)) files DRILL_ROOT o.dtd o.doc = record {
      dtd_bytes = DRILL_DTD;
      reads_dtd = refl;
      is_dtd_text = subst (λ (d : PlainDtd). DtdTextMeans DRILL_DTD (is_dtd d)) (sym read.0.is_dtd)
          means.0;
      bytes = drill_text n;
      reads_document = (refl, refl);
      is_text = read.0.is_text;
    } in guarding_refused (Some (drill n)) files taken DRILL_ROOT o.dtd o.doc both r refl j denies

-- each defined response has its cause
pub responds_caused : (line : Option PlainCommandLine) (files : Files) (course : Course)
    (r : PlainResponse) → IsDefined line files course → course.ending ≡ responds r →
    RespondsBy line files course.taken r.status
responds_caused None files course r defined at =
    by_status None files course.taken Usage r _ (responds_by _ course r defined at) refl refl
responds_caused (Some (on_dtd dtd)) files course r defined at =
    behind_by (dtd_file_stage (file_at 0 files)) (λ g. Responds (TellsDtd g))
    (λ s. RespondsBy (Some (on_dtd dtd)) files course.taken s.status) course r
    (λ s k denies. file_refused (Some (on_dtd dtd)) files course.taken (λ bytes is. is) s k denies)
    (λ g k rest opens told same ends. by_status (Some (on_dtd dtd)) files course.taken Done r _
    (responds_by (TellsDtd g) rest r told ends).is_response refl tt) defined at
responds_caused (Some (on_document verb dtd root doc)) files course r defined at =
    behind_by (opening_stage root files) (VerbTells verb root)
    (λ s. RespondsBy (Some (on_document verb dtd root doc)) files course.taken s.status) course r
    (λ s k denies. opening_refused (Some (on_document verb dtd root doc)) root files (λ text is. is)
    (λ bytes is. (refl, is)) course.taken s k denies)
    (λ o k rest opens told same ends. subst
    (λ (t : Option (List ℕ)). RespondsBy (Some (on_document verb dtd root doc)) files t r.status)
    same
    (verb_by verb dtd root doc files o rest r
    (opening_reads (Some (on_document verb dtd root doc)) root files (λ text is. is)
    (λ bytes is. (refl, is)) o k opens) told ends)) defined at
responds_caused (Some (on_certificate Verify dtd root doc file)) files course r defined at =
    behind_by (certificate_stage pack_file_stage root files)
    (λ both. Responds (TellsOfPack root both.0.dtd both.0.bytes both.1))
    (λ s. RespondsBy (Some (on_certificate Verify dtd root doc file)) files course.taken s.status)
    course r
    (λ s k denies. verify_refused dtd root doc file files course.taken s k denies)
    (λ both k rest opens told same ends. verify_told dtd root doc file files course.taken both k r
    opens (responds_by (TellsOfPack root both.0.dtd both.0.bytes both.1) rest r told ends)) defined
    at
responds_caused (Some (on_certificate Deny dtd root doc file)) files course r defined at =
    behind_by (certificate_stage denial_file_stage root files)
    (λ both. Responds (TellsJudgement root both.0.dtd both.0.doc both.1))
    (λ s. RespondsBy (Some (on_certificate Deny dtd root doc file)) files course.taken s.status)
    course r
    (λ s k denies. deny_refused dtd root doc file files course.taken s k denies)
    (λ both k rest opens told same ends. deny_told dtd root doc file files course.taken both k r
    opens (responds_by (TellsJudgement root both.0.dtd both.0.doc both.1) rest r told ends)) defined
    at
responds_caused (Some (on_ranges dtd root text ranges)) files course r defined at =
    behind_by (nested_stage root files) (λ nested. IsShownCourse root nested.0 nested.1)
    (λ s. RespondsBy (Some (on_ranges dtd root text ranges)) files course.taken s.status) course r
    (λ s k denies. nested_refused dtd root text ranges files course.taken s k denies)
    (λ nested k rest opens shown same ends. shown_told dtd root text ranges files course.taken
    nested k rest r opens shown ends) defined at
responds_caused (Some (drill n)) files course r defined at =
    behind_by (drill_stage n) (λ s. Responds (TellsCounts n s))
    (λ s. RespondsBy (Some (drill n)) files course.taken s.status) course r
    (λ s k denies. drill_refused n files course.taken s k denies)
    (λ s k rest opens told same ends. by_status (Some (drill n)) files course.taken Done r _
    (responds_by (TellsCounts n s) rest r told ends).is_response refl tt) defined at

-- the end of the order of work is no fault
told_by_shelf : (P : PlainResponse → Type 0) (course : Course) → Responds P course →
    course.ending ≡ shelf_fault → ⊥
told_by_shelf P course (responded s is ends) at =
    let here = ap (λ (c : Course). c.ending) ends in cc
told_by_shelf P course (out_of_memory ends) at = let here = ap (λ (c : Course). c.ending) ends in cc

told_by_input : (P : PlainResponse → Type 0) (course : Course) (out : List ℕ) → Responds P course →
    course.ending ≡ input_fault out → ⊥
told_by_input P course out (responded s is ends) at =
    let here = ap (λ (c : Course). c.ending) ends in cc
told_by_input P course out (out_of_memory ends) at =
    let here = ap (λ (c : Course). c.ending) ends in cc

-- a run over a stage ends at a fault of the shelf only where the stage does or what comes after
-- it, and at one of the input only where that does
behind_shelf : {X : Type 0} (stage : Stage X) (Goes : X → Course → Type 0) (course : Course) →
    ((k : ℕ) → stage.Faults k → ⊥) →
    ((x : X) (rest : Course) → Goes x rest → rest.ending ≡ shelf_fault → ⊥) →
    Behind stage Goes course → course.ending ≡ shelf_fault → ⊥
behind_shelf stage Goes course stands never (opened x k rest opens more is) at =
    never x rest more (sym (ap (λ (c : Course). c.ending) is) ∙ at)
behind_shelf stage Goes course stands never (refused s k denies is) at =
    let here = ap (λ (c : Course). c.ending) is in cc
behind_shelf stage Goes course stands never (stopped k faults is) at = stands k faults
behind_shelf stage Goes course stands never (short_of_memory k lacks is) at =
    let here = ap (λ (c : Course). c.ending) is in cc

behind_input : {X : Type 0} (stage : Stage X) (Goes : X → Course → Type 0) (course : Course)
    (out : List ℕ) → ((x : X) (rest : Course) → Goes x rest → rest.ending ≡ input_fault out → ⊥) →
    Behind stage Goes course → course.ending ≡ input_fault out → ⊥
behind_input stage Goes course out never (opened x k rest opens more is) at =
    never x rest more (sym (ap (λ (c : Course). c.ending) is) ∙ at)
behind_input stage Goes course out never (refused s k denies is) at =
    let here = ap (λ (c : Course). c.ending) is in cc
behind_input stage Goes course out never (stopped k faults is) at =
    let here = ap (λ (c : Course). c.ending) is in cc
behind_input stage Goes course out never (short_of_memory k lacks is) at =
    let here = ap (λ (c : Course). c.ending) is in cc

-- a drill fetches nothing
drill_stands : (n k : ℕ) → (drill_stage n).Faults k → ⊥
drill_stands n k (inl (inl never)) = never
drill_stands n k (inl (inr (g, i, j, means, never, e))) = never
drill_stands n k (inr (o, i, j, reads, inl never, e)) = never
drill_stands n k (inr (o, i, j, reads, inr (u, a, b, narrow, never, f), e)) = never

-- what ends at a fault of the shelf names files
names_files : (line : Option PlainCommandLine) (files : Files) (course : Course) →
    IsDefined line files course → course.ending ≡ shelf_fault → files_named line ≡ [] → ⊥
names_files None files course defined at none = told_by_shelf _ course defined at
names_files (Some (on_dtd dtd)) files course defined at none = let no : dtd ∷ [] ≡ [] = none in cc
names_files (Some (on_document verb dtd root doc)) files course defined at none =
    let no : dtd ∷ doc ∷ [] ≡ [] = none in cc
names_files (Some (on_certificate checker dtd root doc file)) files course defined at none =
    let no : dtd ∷ doc ∷ file ∷ [] ≡ [] = none in cc
names_files (Some (on_ranges dtd root text ranges)) files course defined at none =
    let no : dtd ∷ text ∷ ranges ∷ [] ≡ [] = none in cc
names_files (Some (drill n)) files course defined at none =
    behind_shelf (drill_stage n) (λ s. Responds (TellsCounts n s)) course (drill_stands n)
    (λ s rest told. told_by_shelf (TellsCounts n s) rest told) defined at

-- what ends at a fault of the input reads a script, by verb
verb_reads : (verb : Verb) (dtd root doc : List ℕ) (o : PlainOpened) (course : Course)
    (out : List ℕ) → VerbTells verb root o course → course.ending ≡ input_fault out →
    ReadsScript (Some (on_document verb dtd root doc))
verb_reads Valid dtd root doc o course out tells at =
    absurd (told_by_input (TellsValidity root o.dtd o.doc) course out tells at)
verb_reads Check dtd root doc o course out tells at =
    absurd (behind_input (width_stage o.dtd o.doc)
    (λ _. Responds (TellsPossibility root o.dtd o.doc)) course out
    (λ u rest told. told_by_input (TellsPossibility root o.dtd o.doc) rest out told) tells at)
verb_reads Session dtd root doc o course out tells at = refl
verb_reads Complete dtd root doc o course out tells at =
    absurd (behind_input (possibility_stage root o.dtd o.doc)
    (λ _. Responds (TellsPack root o.dtd o.doc)) course out
    (λ u rest told. told_by_input (TellsPack root o.dtd o.doc) rest out told) tells at)
verb_reads Why dtd root doc o course out tells at =
    absurd (behind_input (width_stage o.dtd o.doc) (λ _. Responds (TellsWhy root o.dtd o.doc))
    course out (λ u rest told. told_by_input (TellsWhy root o.dtd o.doc) rest out told) tells at)

document_reads : (verb : Verb) (dtd root doc : List ℕ) (files : Files) (course : Course)
    (out : List ℕ) → Behind (opening_stage root files) (VerbTells verb root) course →
    course.ending ≡ input_fault out →
    ReadsScript (Some (on_document verb dtd root doc))
document_reads verb dtd root doc files course out (opened o k rest opens tells is) at =
    verb_reads verb dtd root doc o rest out tells (sym (ap (λ (c : Course). c.ending) is) ∙ at)
document_reads verb dtd root doc files course out (refused s k denies is) at =
    let here = ap (λ (c : Course). c.ending) is in cc
document_reads verb dtd root doc files course out (stopped k faults is) at =
    let here = ap (λ (c : Course). c.ending) is in cc
document_reads verb dtd root doc files course out (short_of_memory k lacks is) at =
    let here = ap (λ (c : Course). c.ending) is in cc

script_read : (line : Option PlainCommandLine) (files : Files) (course : Course) (out : List ℕ) →
    IsDefined line files course → course.ending ≡ input_fault out → ReadsScript line
script_read None files course out defined at = told_by_input _ course out defined at
script_read (Some (on_dtd dtd)) files course out defined at =
    behind_input (dtd_file_stage (file_at 0 files)) (λ g. Responds (TellsDtd g)) course out
    (λ g rest told. told_by_input (TellsDtd g) rest out told) defined at
script_read (Some (on_document verb dtd root doc)) files course out defined at =
    document_reads verb dtd root doc files course out defined at
script_read (Some (on_certificate Verify dtd root doc file)) files course out defined at =
    behind_input (certificate_stage pack_file_stage root files)
    (λ both. Responds (TellsOfPack root both.0.dtd both.0.bytes both.1)) course out
    (λ both rest told. told_by_input (TellsOfPack root both.0.dtd both.0.bytes both.1) rest out
    told) defined at
script_read (Some (on_certificate Deny dtd root doc file)) files course out defined at =
    behind_input (certificate_stage denial_file_stage root files)
    (λ both. Responds (TellsJudgement root both.0.dtd both.0.doc both.1)) course out
    (λ both rest told. told_by_input (TellsJudgement root both.0.dtd both.0.doc both.1) rest out
    told) defined at
script_read (Some (on_ranges dtd root text ranges)) files course out defined at =
    behind_input (nested_stage root files) (λ nested. IsShownCourse root nested.0 nested.1) course
    out
    (λ nested rest shown. behind_input (width_stage nested.0 nested.1)
    (λ _. Responds (TellsNested root nested.0 nested.1)) rest out
    (λ u more told. told_by_input (TellsNested root nested.0 nested.1) more out told) shown) defined
    at
script_read (Some (drill n)) files course out defined at =
    behind_input (drill_stage n) (λ s. Responds (TellsCounts n s)) course out
    (λ s rest told. told_by_input (TellsCounts n s) rest out told) defined at

no_device : {S : Type 0} (line : Option PlainCommandLine) (files : Files) (taken : Option (List ℕ))
    (before after : Devices S) (status : Status) → RespondsBy line files taken status →
    HasCause line files taken before after status
no_device line files taken before after Done cause = cause
no_device line files taken before after Negative cause = cause
no_device line files taken before after Usage cause = cause
no_device line files taken before after ReadFault cause = absurd cause
no_device line files taken before after WriteFault cause = absurd cause
no_device line files taken before after NoMemory cause = absurd cause
no_device line files taken before after BadDtd cause = cause
no_device line files taken before after BadDocument cause = cause
no_device line files taken before after Limit cause = cause
no_device line files taken before after BadPack cause = cause

module _ {S : Type 0} (line : Option PlainCommandLine) (files : Files) (course : Course)
    (before after : Devices S) (status : Status) where
  cause_at : (ending : RunEnding) → course.ending ≡ ending → IsDefined line files course →
      CountsShelf ending before.shelf.faults after.shelf.faults →
      CountsInput ending before.input.faults after.input.faults →
      WritesEnding ending before.output.written after.output.written before.output.faults
      after.output.faults status → HasCause line files course.taken before after status
  cause_at ending at defined shelf input (cut_off out cuts is front rose) =
      subst (HasCause line files course.taken before after) (sym is) rose
  cause_at (responds r) at defined shelf input (wrote whole is written stays) =
      subst (HasCause line files course.taken before after) (sym is)
      (no_device line files course.taken before after r.status
      (responds_caused line files course r defined at))
  cause_at shelf_fault at defined shelf input (wrote whole is written stays) =
      subst (HasCause line files course.taken before after) (sym is)
      (of_shelf (names_files line files course defined at) shelf)
  cause_at (input_fault out) at defined shelf input (wrote whole is written stays) =
      subst (HasCause line files course.taken before after) (sym is)
      (of_input (script_read line files course out defined at) input)
  cause_at (output_fault out) at defined shelf input (wrote whole is written stays) = cc
  cause_at no_memory at defined shelf input (wrote whole is written stays) =
      subst (HasCause line files course.taken before after) (sym is) tt

pub comes_by_cause : (S : Type 0) → ComesByCause S
comes_by_cause S line before after status run =
    cause_at line run.files run.course before after status run.course.ending refl run.is_defined
    run.shelf.faults run.streams.input run.streams.output

one_rises : {S : Type 0} (before after : Devices S) (ending : RunEnding) (status : Status) →
    CountsShelf ending before.shelf.faults after.shelf.faults →
    CountsInput ending before.input.faults after.input.faults →
    WritesEnding ending before.output.written after.output.written before.output.faults
    after.output.faults status → OneRoseAtMost before after
one_rises before after (responds r) status shelf input writes =
    record { shelf_or_input = inl shelf; shelf_or_output = inl shelf; input_or_output = inl input }
one_rises before after shelf_fault status shelf input (wrote whole is written stays) =
    record { shelf_or_input = inr input; shelf_or_output = inr stays; input_or_output = inl input }
one_rises before after shelf_fault status shelf input (cut_off out cuts is front rose) = absurd cuts
one_rises before after (input_fault o) status shelf input (wrote whole is written stays) =
    record { shelf_or_input = inl shelf; shelf_or_output = inl shelf; input_or_output = inr stays }
one_rises before after (input_fault o) status shelf input (cut_off out cuts is front rose) =
    absurd cuts
one_rises before after (output_fault o) status shelf input writes =
    record { shelf_or_input = inl shelf; shelf_or_output = inl shelf; input_or_output = inl input }
one_rises before after no_memory status shelf input writes =
    record { shelf_or_input = inl shelf; shelf_or_output = inl shelf; input_or_output = inl input }

pub raises_one_at_most : (S : Type 0) → RaisesOneAtMost S
raises_one_at_most S line before after status run =
    one_rises before after run.course.ending status run.shelf.faults run.streams.input
    run.streams.output
