-- The causes of responses, of a command line that reads a DTD and a document.
use Rattle.std.proofs.Common.{◌≡◌, inl, inr, ℕ, List, Option, Some, false, ap, refl, sym, ◌∙◌}
use Rattle.std.proofs.Common.{subst, true}
use Rattle.pv_dtd.specs.Kinds.{Kind as DtdKind, parameter, nesting, syntax, twice, mixed_twice}
use Rattle.pv_dtd.specs.Kinds.{limit}
use Rattle.pv_dtd.specs.Meaning.{DtdTextMeans, faulty as faulty_dtd, is_dtd}
use Rattle.pv_dtd.specs.Plain.{PlainDtd}
use Rattle.pv_read.specs.Kinds.{Kind, subset, syntax as bad_syntax, entity, mismatch, doctype_name}
use Rattle.pv_read.specs.Kinds.{deep}
use Rattle.pv_read.specs.Grammar.{IsDocumentText}
use Rattle.pv_read.specs.Meaning.{DocumentMeans, faulty}
use Rattle.pv_tree.specs.Marks.{blank_mark}
use Rattle.pv_tree.specs.Plain.{PlainDoc}
use Rattle.pv_tree.specs.declared.nodes.Mark.{Mark}
use Rattle.pv_session.specs.Sessions.{PlainSession}
use Rattle.pv_params.specs.Meaning.{Expands, Fault, conditional, external, undeclared, recursive}
use Rattle.pv_params.specs.Meaning.{faulty as faulty_parameters}
use Rattle.pv_params.specs.Meaning.{limit as params_limit, syntax as params_syntax}
use Rattle.pv_opening.specs.Parameters.{RefusesParameters, is_parameters_limit, not_expanded}
use Rattle.law_program.specs.Causes.{HoldsText, NeedsTables, ReadsScript, TestsFor, parameters}
use Rattle.law_program.specs.Causes.{ReadsBoth, ReadsDocument, ReadsDtd, RespondsBy}
use Rattle.law_program.specs.Causes.{is_document_limit, is_dtd_limit, dtd_file, document_file}
use Rattle.law_program.specs.Causes.{in_dtd}
use Rattle.law_program.specs.Causes.{in_document, document_bytes, list_width, not_possible}
use Rattle.law_program.specs.Causes.{not_valid, script_line, whole_script, missing_elements}
use Rattle.law_program.specs.Causes.{table_entries, weights_width}
use Rattle.pv_commands.specs.Complete.{TellsPack, has_too_many, is_heavy, is_pack, is_wide}
use Rattle.pv_cli.specs.CommandLine.{PlainCommandLine}
use Rattle.law_program.specs.Tests.{Test, possibility, tests_width, validity, width}
use Rattle.pv_opening.specs.Course.{Course, RunEnding, responds}
use Rattle.pv_opening.specs.Documents.{PlainOpened, RefusesDocument, no_document, too_many_bytes}
use Rattle.pv_opening.specs.Opening.{Files, RefusesDtd, dtd_file_stage, file_at, no_dtd}
use Rattle.pv_opening.specs.Opening.{opening_stage}
use Rattle.pv_opening.specs.Possibility.{RefusesImpossible, RefusesWidth, TellsPossibility}
use Rattle.pv_opening.specs.Possibility.{is_impossible, is_no_more, is_possible, is_too_wide}
use Rattle.pv_opening.specs.Possibility.{possibility_stage}
use Rattle.pv_opening.specs.Response.{PlainResponse}
use Rattle.pv_conversation.proofs.Likeness.{same_response}
use Rattle.pv_conversation.specs.Session.{Converses, ended_over, finished, guarding_stage}
use Rattle.pv_conversation.specs.Session.{input_failed, output_failed, past_line, past_script}
use Rattle.pv_conversation.specs.Session.{quitted, without_room}
use Rattle.pv_opening.specs.Stage.{Stage, Behind, Responds, opened, refused, responded}
use Rattle.pv_opening.specs.Stage.{short_of_memory, short_of_memory as out_of_memory, stopped}
use Rattle.pv_commands.specs.Valid.{TellsValidity, is_invalid, is_valid}
use Rattle.pv_opening.specs.declared.status.Status.{Status}
use Rattle.pv_opening.specs.declared.status.Status.TheVariants.{Done, Negative, BadDtd, BadDocument}
use Rattle.pv_opening.specs.declared.status.Status.TheVariants.{Limit}

-- a response of a known status
pub by_status : (line : Option PlainCommandLine) (files : Files) (taken : Option (List ℕ))
    (status : Status) (r told : PlainResponse) → r ≡ told → told.status ≡ status →
    RespondsBy line files taken status → RespondsBy line files taken r.status
by_status line files taken status r told is at cause =
    subst (RespondsBy line files taken) (sym (ap (λ (p : PlainResponse). p.status) is ∙ at)) cause

module _ (line : Option PlainCommandLine) (files : Files) (taken : Option (List ℕ)) where
  bad_dtd : (bytes : List ℕ) (kind : DtdKind) (k : ℕ) (r told : PlainResponse) →
      ReadsDtd line files bytes → DtdTextMeans bytes (faulty_dtd kind k) →
      is_dtd_limit kind ≡ false → r ≡ told → told.status ≡ BadDtd →
      RespondsBy line files taken r.status
  bad_dtd bytes kind k r told reads means none is at =
      by_status line files taken BadDtd r told is
      at (inl record {
        bytes = bytes;
        reads = reads;
        kind = kind;
        items = k;
        means = means;
        no_limit = none;
      })

  pub dtd_refused : (bytes : List ℕ) (r : PlainResponse) → ReadsDtd line files bytes →
      RefusesDtd bytes r → RespondsBy line files taken r.status
  dtd_refused bytes r reads (no_dtd parameter k means is) =
      bad_dtd bytes parameter k r _ reads means refl is refl
  dtd_refused bytes r reads (no_dtd nesting k means is) =
      by_status line files taken Limit r _ is refl (in_dtd bytes nesting k reads means refl)
  dtd_refused bytes r reads (no_dtd syntax k means is) =
      bad_dtd bytes syntax k r _ reads means refl is refl
  dtd_refused bytes r reads (no_dtd twice k means is) =
      bad_dtd bytes twice k r _ reads means refl is refl
  dtd_refused bytes r reads (no_dtd mixed_twice k means is) =
      bad_dtd bytes mixed_twice k r _ reads means refl is refl
  dtd_refused bytes r reads (no_dtd limit k means is) =
      by_status line files taken Limit r _ is refl (in_dtd bytes limit k reads means refl)

  bad_parameters : (bytes : List ℕ) (fault : Fault) (r told : PlainResponse) →
      file_at 0 files ≡ Some bytes → Expands bytes (faulty_parameters fault) →
      is_parameters_limit fault ≡ false → r ≡ told → told.status ≡ BadDtd →
      RespondsBy line files taken r.status
  bad_parameters bytes fault r told file e none is at =
      by_status line files taken BadDtd r told is
      at (inr record { bytes = bytes; is_file = file; fault = fault; expands = e; no_limit = none })

  pub parameters_refused : (bytes : List ℕ) (r : PlainResponse) → file_at 0 files ≡ Some bytes →
      RefusesParameters bytes r → RespondsBy line files taken r.status
  parameters_refused bytes r file (not_expanded conditional e is) =
      bad_parameters bytes conditional r _ file e refl is refl
  parameters_refused bytes r file (not_expanded external e is) =
      bad_parameters bytes external r _ file e refl is refl
  parameters_refused bytes r file (not_expanded undeclared e is) =
      bad_parameters bytes undeclared r _ file e refl is refl
  parameters_refused bytes r file (not_expanded recursive e is) =
      bad_parameters bytes recursive r _ file e refl is refl
  parameters_refused bytes r file (not_expanded params_syntax e is) =
      bad_parameters bytes params_syntax r _ file e refl is refl
  parameters_refused bytes r file (not_expanded params_limit e is) =
      by_status line files taken Limit r _ is refl (parameters bytes params_limit file e refl)

  pub bad_document : (root bytes : List ℕ) (kind : Kind) (k : ℕ) (r told : PlainResponse) →
      ReadsDocument line files root bytes → DocumentMeans blank_mark root bytes (faulty kind k) →
      is_document_limit kind ≡ false → r ≡ told → told.status ≡ BadDocument →
      RespondsBy line files taken r.status
  bad_document root bytes kind k r told reads means none is at =
      by_status line files taken BadDocument r told is
      at (inl record {
        root = root;
        bytes = bytes;
        reads = reads;
        kind = kind;
        items = k;
        means = means;
        no_limit = none;
      })

  pub document_refused : (root bytes : List ℕ) (r : PlainResponse) →
      ReadsDocument line files root bytes → RefusesDocument root bytes r →
      RespondsBy line files taken r.status
  document_refused root bytes r reads (no_document subset k means is) =
      bad_document root bytes subset k r _ reads means refl is refl
  document_refused root bytes r reads (no_document bad_syntax k means is) =
      bad_document root bytes bad_syntax k r _ reads means refl is refl
  document_refused root bytes r reads (no_document entity k means is) =
      bad_document root bytes entity k r _ reads means refl is refl
  document_refused root bytes r reads (no_document mismatch k means is) =
      bad_document root bytes mismatch k r _ reads means refl is refl
  document_refused root bytes r reads (no_document doctype_name k means is) =
      bad_document root bytes doctype_name k r _ reads means refl is refl
  document_refused root bytes r reads (no_document deep k means is) =
      by_status line files taken Limit r _ is refl (in_document root bytes deep k reads means refl)
  document_refused root bytes r reads (too_many_bytes means is) =
      by_status line files taken Limit r _ is refl (document_bytes root bytes reads means)

  module _ (root : List ℕ) (g : PlainDtd) (doc : PlainDoc Mark)
      (both : ReadsBoth line files root g doc) (r : PlainResponse) where
    pub width_refused : (test : Test) → TestsFor line test → tests_width test ≡ true →
        RefusesWidth g doc r → RespondsBy line files taken r.status
    width_refused test tests looks (is_too_wide path first is) =
        by_status line files taken Limit r _ is refl
        (list_width root g doc path test tests looks both first)

    pub impossible_refused : TestsFor line possibility → RefusesImpossible root g doc r →
        RespondsBy line files taken r.status
    impossible_refused tests (is_impossible path never first is) =
        by_status line files taken Negative r _ is refl (not_possible root g doc tests both never)

    pub validity_told : TestsFor line validity → TellsValidity root g doc r →
        RespondsBy line files taken r.status
    validity_told tests (is_valid valid is) = by_status line files taken Done r _ is refl tt
    validity_told tests (is_invalid path first is) =
        by_status line files taken Negative r _ is refl (not_valid root g doc path tests both first)

    pub possibility_told : TestsFor line possibility → TellsPossibility root g doc r →
        RespondsBy line files taken r.status
    possibility_told tests (is_possible n can have is) =
        by_status line files taken Done r _ is refl tt
    possibility_told tests (is_no_more denies) = impossible_refused tests denies

    pub pack_told : TestsFor line possibility → NeedsTables line → TellsPack root g doc r →
        RespondsBy line files taken r.status
    pack_told tests makes (is_pack pack least verifiable is) =
        by_status line files taken Done r _ is refl tt
    pack_told tests makes (is_wide path stops is) =
        by_status line files taken Limit r _ is refl
        (weights_width root g doc path makes both stops)
    pack_told tests makes (is_heavy heavy is) =
        by_status line files taken Limit r _ is refl (missing_elements root g doc makes both heavy)
    pack_told tests makes (has_too_many many is) =
        by_status line files taken Limit r _ is refl (table_entries root g doc makes both many)

    pub possibility_refused : TestsFor line possibility → (k : ℕ) →
        (possibility_stage root g doc).Refuses r k → RespondsBy line files taken r.status
    possibility_refused tests k (inl wide) = width_refused possibility tests refl wide.0
    possibility_refused tests k (inr (u, i, j, narrow, denies, e)) =
        impossible_refused tests denies.0

    pub guarding_refused : TestsFor line width → (k : ℕ) → (guarding_stage root g doc).Refuses r k →
        RespondsBy line files taken r.status
    guarding_refused tests k (inl wide) = width_refused width tests refl wide.0
    guarding_refused tests k (inr (u, i, j, narrow, never, e)) = absurd never.0

-- the end of the order of work
pub responds_by : (P : PlainResponse → Type 0) (course : Course) (r : PlainResponse) →
    Responds P course → course.ending ≡ responds r → P r
responds_by P course r (responded s is ends) at =
    subst P (same_response course.ending s r (ap (λ (c : Course). c.ending) ends) at) is
responds_by P course r (out_of_memory ends) at = let here = ap (λ (c : Course). c.ending) ends in cc

-- a run over a stage whose refusals have a cause, and after which responses have one
pub behind_by : {X : Type 0} (stage : Stage X) (Goes : X → Course → Type 0)
    (P : PlainResponse → Type 0) (course : Course) (r : PlainResponse) →
    ((s : PlainResponse) (k : ℕ) → stage.Refuses s k → P s) →
    ((x : X) (k : ℕ) (rest : Course) → stage.Opens x k → Goes x rest → rest.taken ≡ course.taken →
    rest.ending ≡ responds r → P r) →
    Behind stage Goes course → course.ending ≡ responds r → P r
behind_by stage Goes P course r refuses goes (opened x k rest opens more is) at =
    goes x k rest opens more (sym (ap (λ (c : Course). c.taken) is))
    (sym (ap (λ (c : Course). c.ending) is) ∙ at)
behind_by stage Goes P course r refuses goes (refused s k denies is) at =
    subst P (same_response course.ending s r (ap (λ (c : Course). c.ending) is) at)
    (refuses s k denies)
behind_by stage Goes P course r refuses goes (stopped k faults is) at =
    let here = ap (λ (c : Course). c.ending) is in cc
behind_by stage Goes P course r refuses goes (short_of_memory k lacks is) at =
    let here = ap (λ (c : Course). c.ending) is in cc

-- how a session responds
pub session_by : (line : Option PlainCommandLine) (files : Files) (session : PlainSession)
    (course : Course) (r : PlainResponse) → ReadsScript line → Converses session course →
    course.ending ≡ responds r →
    RespondsBy line files course.taken r.status
session_by line files session course r reads (without_room is) at =
    let here = ap (λ (c : Course). c.ending) is in cc
session_by line files session course r reads
    (ended_over script f is (finished out place e w replies ends)) at =
    by_status line files course.taken Done r _ (same_response course.ending r _ at ends) refl tt
session_by line files session course r reads (ended_over script f is (quitted out replies ends))
    at =
    by_status line files course.taken Done r _ (same_response course.ending r _ at ends) refl tt
session_by line files session course r reads
    (ended_over script f is (past_line out number after long replies ends)) at =
    by_status line files course.taken Limit r _ (same_response course.ending r _ at ends) refl
    (script_line script reads is long)
session_by line files session course r reads
    (ended_over script f is (past_script out number after none beyond replies ends)) at =
    by_status line files course.taken Limit r _ (same_response course.ending r _ at ends) refl
    (whole_script script reads is beyond)
session_by line files session course r reads
    (ended_over script f is (input_failed out number after w replies ends)) at = cc
session_by line files session course r reads
    (ended_over script f is (output_failed lines more out place e replies ends)) at = cc

-- opening the DTD's file
pub file_refused : (line : Option PlainCommandLine) (files : Files) (taken : Option (List ℕ)) →
    ((text : List ℕ) → HoldsText (file_at 0 files) text → ReadsDtd line files text) →
    (r : PlainResponse) (k : ℕ) →
    (dtd_file_stage (file_at 0 files)).Refuses r k → RespondsBy line files taken r.status
file_refused line files taken reads r k (inl long) =
    by_status line files taken Limit r _ long.0.is_response refl
    (dtd_file long.0.bytes long.0.is_file long.0.beyond)
file_refused line files taken reads r k (inr (bytes, i, j, given, inl denies, e)) =
    parameters_refused line files taken bytes r given.0.is_file denies.0
file_refused line files taken reads r k
    (inr (bytes, i, j, given, inr (text, u, v, expands, denies, f), e)) =
    dtd_refused line files taken text r
    (reads text record { bytes = bytes; is_file = given.0.is_file; expands = expands.0 }) denies.0

-- opening both files, of a command line that reads them
module _ (line : Option PlainCommandLine) (root : List ℕ) (files : Files)
    (reads_dtd : (text : List ℕ) → HoldsText (file_at 0 files) text → ReadsDtd line files text)
    (reads_document : (bytes : List ℕ) → file_at 1 files ≡ Some bytes →
    ReadsDocument line files root bytes) where
  pub opening_refused : (taken : Option (List ℕ)) (r : PlainResponse) (k : ℕ) →
      (opening_stage root files).Refuses r k → RespondsBy line files taken r.status
  opening_refused taken r k (inl (inl file)) = file_refused line files taken reads_dtd r k file
  opening_refused taken r k (inl (inr (g, i, j, opens, long, e))) =
      by_status line files taken Limit r _ long.0.is_response refl
      (document_file long.0.bytes long.0.is_file long.0.beyond)
  opening_refused taken r k (inr (both, i, j, fetched, denies, e)) =
      document_refused line files taken root both.1 r (reads_document both.1 fetched.4.1.0.is_file)
      denies.0

  pub opening_reads_as : (o : PlainOpened) (k : ℕ) → (opening_stage root files).Opens o k →
      (doc : PlainDoc Mark) → IsDocumentText root o.bytes doc → ReadsBoth line files root o.dtd doc
  opening_reads_as o k (
    both,
    i,
    j,
    (g, a, b, (bytes, u, v, given, (text, x, y, expands, means, l), e), (same, fetched), f),
    read,
    h,
  ) doc spells =
      let is = read.0.is_dtd ∙ same in
      record {
        dtd_bytes = text;
        reads_dtd = reads_dtd text
            (record { bytes = bytes; is_file = given.0.is_file; expands = expands.0 });
        is_dtd_text = subst (λ (d : PlainDtd). DtdTextMeans text (is_dtd d)) (sym is) means.0;
        bytes = both.1;
        reads_document = reads_document both.1 fetched.0.is_file;
        is_text = subst (λ (h : List ℕ). IsDocumentText root h doc) read.0.are_bytes spells;
      }

  pub opening_reads : (o : PlainOpened) (k : ℕ) → (opening_stage root files).Opens o k →
      ReadsBoth line files root o.dtd o.doc
  opening_reads o k (both, i, j, fetched, read, h) =
      opening_reads_as o k (both, i, j, fetched, read, h) o.doc
      (subst (λ (h : List ℕ). IsDocumentText root h o.doc) (sym read.0.are_bytes) read.0.is_text)
