-- A session that was begun answers its whole script.
use Rattle.std.proofs.Common.{◌≡◌, ◌⊎◌, inl, inr, ℕ, Bool, true, false, List, [], ◌∷◌, ◌++◌, Option, Some, None, ap, refl, sym, ◌∙◌, subst}
use Rattle.std.proofs.lemmas.List.{append-nil}
use Rattle.std.specs.Io.KnownBytes.{Appends, Consumes, IsAtEnd}
use Rattle.pv_dtd.specs.Laws.{MeansDtd}
use Rattle.pv_dtd.specs.Plain.{PlainDtd}
use Rattle.pv_io.specs.Files.{file_named}
use Rattle.pv_words.specs.Lines.{lines_of}
use Rattle.pv_session.specs.Sessions.{PlainSession, session_on}
use Rattle.pv_tree.specs.Marks.{unmarked_doc}
use Rattle.pv_tree.specs.Plain.{PlainDoc}
use Rattle.pv_tree.specs.declared.nodes.Mark.{Mark}
use Rattle.pv_opening.specs.Possibility.{AreAllNarrow}
use Rattle.pv_cli.specs.CommandLine.{PlainCommandLine, on_document}
use Rattle.pv_opening.specs.Course.{Course, RunEnding, input_fault, responds}
use Rattle.pv_opening.specs.Devices.{Devices}
use Rattle.pv_opening.specs.Documents.{PlainOpened}
use Rattle.pv_cli.specs.Headline.{AnswersScript, HadNoMemory, HoldsDocument, HoldsDtd}
use Rattle.pv_cli.specs.Laws.{Answered, AnswersWithoutFault, SessionsAreGuarded}
use Rattle.pv_opening.specs.Opening.{AreFiles, Files, file_at, opening_stage}
use Rattle.pv_opening.specs.ShownCourses.{ReadsAll, TakesInput}
use Rattle.pv_cli.specs.Program.{Runs}
use Rattle.pv_opening.specs.Response.{PlainResponse}
use Rattle.pv_conversation.specs.Script.{IsWithin}
use Rattle.pv_conversation.specs.Session.{Converses, EndsSession, IsSessionCourse, Place, Replies, at_quit, ended_over, finished, guarding_stage}
use Rattle.pv_conversation.specs.Session.{input_failed, output_failed, past_line, past_script, quitted, without_room}
use Rattle.pv_opening.specs.declared.status.Status.{Status}
use Rattle.pv_opening.specs.declared.status.Status.TheVariants.{Done}
use Rattle.pv_cli.specs.declared.verb.Verb.TheVariants.{Session}
use Rattle.pv_conversation.proofs.Beginnings.{session_begins}
use Rattle.pv_conversation.proofs.ContinuedScripts.{more_changes_nothing}
use Rattle.pv_opening.proofs.OneOpening.{AreSameOpened, GoesWith, ReadsOne, ReadsOneDtd, opening_sure, went_on}
use Rattle.pv_conversation.proofs.Likeness.{same_response}
use Rattle.pv_conversation.proofs.OneSession.{guarding_sure, quit_on, within_or_past}

-- the replies to a whole script, and that they are the response
record Ends (session : PlainSession) (script : List ℕ) (r : PlainResponse) : Type 0 where
  silent : List ℕ
  out : List ℕ
  place : Place
  replies : Replies silent 1 session (lines_of script) out place
  is_response : r ≡ record { status = Done; output = out }

ends : (session : PlainSession) (script silent : List ℕ) (at_end : Bool) (ending : RunEnding)
    (r : PlainResponse) → IsWithin script → ending ≡ responds r →
    EndsSession session script silent at_end ending → Ends session script r
ends session script silent at_end ending r within at (finished out place e w replies is) =
    record {
      silent = silent;
      out = out;
      place = place;
      replies = replies;
      is_response = same_response ending r _ at is;
    }
ends session script silent at_end ending r within at (quitted out replies is) =
    record {
      silent = silent;
      out = out;
      place = at_quit;
      replies = quit_on session script silent out within replies;
      is_response = same_response ending r _ at is;
    }
ends session script silent at_end ending r within at (past_line out number after long replies is) =
    let none = within.lines in cc
ends session script silent at_end ending r within
    at (past_script out number after none beyond replies is) =
    absurd (within_or_past script within beyond)
ends session script silent at_end ending r within at (input_failed out number after w replies is) =
    cc
ends session script silent at_end ending r within
    at (output_failed lines more out place e replies is) = cc

-- what was taken is a front of the script, and all of it where its end was reached
taken_front : (left now : Option (List ℕ)) (script taken : List ℕ) → left ≡ Some script →
    Consumes left now taken → (more : List ℕ) × (script ≡ taken ++ more) × (IsAtEnd now → more ≡ [])
taken_front None now script taken is consumes = cc
taken_front (Some o) None script taken is consumes = absurd consumes
taken_front (Some o) (Some n) script taken is consumes =
    let same : o ≡ script = cc in (n, sym same ∙ consumes, λ none. none)

no_input_fault : (ending : RunEnding) (r : PlainResponse) (out : List ℕ) → ending ≡ responds r →
    ending ≡ input_fault out → ⊥
no_input_fault ending r out at is = cc

over_script : (session : PlainSession) (taken more script silent : List ℕ) (at_end : Bool)
    (ending : RunEnding) (r : PlainResponse) → ending ≡ responds r → script ≡ taken ++ more →
    (at_end ≡ true → more ≡ []) →
    EndsSession session taken silent at_end ending →
    (b : Bool) × EndsSession session script silent b ending
over_script session taken more script silent false ending r at is whole over = (
  false,
  subst (λ (s : List ℕ). EndsSession session s silent false ending) (sym is)
      (more_changes_nothing session taken more silent ending (λ out. no_input_fault ending r out at)
      over),
)
over_script session taken more script silent true ending r at is whole over =
    let same : script ≡ taken =
    is ∙ ap (λ (h : List ℕ). taken ++ h) (whole refl) ∙ append-nil taken in
    (true, subst (λ (s : List ℕ). EndsSession session s silent true ending) (sym same) over)

talked : (session : PlainSession) (course : Course) (left now : Option (List ℕ)) (script : List ℕ)
    (r : PlainResponse) → IsWithin script → left ≡ Some script →
    ((taken : List ℕ) → course.taken ≡ Some taken → Consumes left now taken) →
    ((taken : List ℕ) → course.taken ≡ Some taken → course.at_end ≡ true → IsAtEnd now) →
    course.ending ≡ responds r → Converses session course → Ends session script r
talked session course left now script r within is takes reads at (without_room e) =
    let here = ap (λ (c : Course). c.ending) e in cc
talked session course left now script r within is takes reads at (ended_over taken f e over) =
    let front = taken_front left now script taken is (takes taken e) in
    let all = over_script session taken front.0 script course.silent course.at_end course.ending r
    at front.1 (λ end. front.2 (reads taken e end)) over in
    ends session script course.silent all.0 course.ending r within at all.1

two_files : (told : List (List ℕ × List ℕ)) (a b : List ℕ) (files : Files) →
    AreFiles (Some told) (a ∷ b ∷ []) files →
    (file_at 0 files ≡ file_named a told) × (file_at 1 files ≡ file_named b told)
two_files told a b [] are = absurd are
two_files told a b (f ∷ []) are = absurd are.1
two_files told a b (f ∷ g ∷ []) are = (are.0, are.1.0)
two_files told a b (f ∷ g ∷ h ∷ hs) are = absurd are.1.1

opens : MeansDtd →
    (told : List (List ℕ × List ℕ)) (dtd root name : List ℕ) (files : Files) (g : PlainDtd)
    (doc : PlainDoc Mark) → AreFiles (Some told) (dtd ∷ name ∷ []) files →
    (d : HoldsDtd told dtd g) → (e : HoldsDocument told name root doc) →
    (opening_stage root files).Opens (record { dtd = g; bytes = e.bytes; doc = doc }) 2
opens means told dtd root name files g doc are d e =
    let both = two_files told dtd name files are in
    let meaning = (means d.text g).1 (d.is_text, d.limits) in (
      (g, e.bytes),
      2,
      0,
      (
        g,
        1,
        1,
        (
          d.bytes,
          1,
          0,
          (record { is_file = both.0 ∙ d.is_file; within = d.within }, refl),
          (d.text, 0, 0, (d.expands, refl), (meaning, refl), refl),
          refl,
        ),
        (refl, (record { is_file = both.1 ∙ e.is_file; within = e.within }, refl)),
        refl,
      ),
      (record { is_dtd = refl; are_bytes = refl; is_text = e.is_text }, refl),
      refl,
    )

-- after the opened files
behind_files : ReadsOne →
    (root : List ℕ) (x y : PlainOpened) (course : Course) (r : PlainResponse) → AreSameOpened x y →
    AreAllNarrow y.dtd y.doc → course.ending ≡ responds r →
    IsSessionCourse root x course →
    GoesWith (guarding_stage root x.dtd x.doc)
    (λ s rest. Converses s rest × (s ≡ session_on y.dtd root (unmarked_doc y.doc))) course
behind_files one root x y course r same narrow at goes =
    by (went_on (guarding_stage root x.dtd x.doc) Converses course r goes at)
  where
    begins : (guarding_stage root y.dtd y.doc).Opens (session_on y.dtd root (unmarked_doc y.doc)) 0
    begins =
        session_begins root y.dtd y.dtd y.doc (session_on y.dtd root (unmarked_doc y.doc)) refl
        narrow refl

    by : GoesWith (guarding_stage root x.dtd x.doc) Converses course ⊎
        ((k : ℕ) × (guarding_stage root x.dtd x.doc).Refuses r k) →
        GoesWith (guarding_stage root x.dtd x.doc)
        (λ s rest. Converses s rest × (s ≡ session_on y.dtd root (unmarked_doc y.doc))) course
    by (inl w) = record {
      x = w.x;
      count = w.count;
      rest = w.rest;
      opens = w.opens;
      goes = (
        w.goes,
        (guarding_sure one.spells_one root x y same).same w.x
            (session_on y.dtd root (unmarked_doc y.doc)) w.count 0 w.opens begins,
      );
      is_rest = w.is_rest;
    }
    by (inr refuses) =
        absurd ((guarding_sure one.spells_one root x y same).refuses_or
        (session_on y.dtd root (unmarked_doc y.doc)) r refuses.0 0 refuses.1 begins)

module _ (S : Type 0) (dtds : ReadsOneDtd) (means : MeansDtd) (one : ReadsOne)
    (told : List (List ℕ × List ℕ)) (dtd root name script : List ℕ) (g : PlainDtd)
    (doc : PlainDoc Mark) (before after : Devices S) (status : Status)
    (run : Runs (Some (on_document Session dtd root name)) before after status)
    (is_told : before.shelf.files ≡ Some told) (is_left : before.input.left ≡ Some script)
    (d : HoldsDtd told dtd g) (e : HoldsDocument told name root doc)
    (narrow : AreAllNarrow g doc) (within : IsWithin script) where
  abbrev held : PlainOpened
  held = record { dtd = g; bytes = e.bytes; doc = doc }

  takes : (rest : Course) → run.course.taken ≡ rest.taken → (taken : List ℕ) →
      rest.taken ≡ Some taken → Consumes before.input.left after.input.left taken
  takes rest same taken is =
      subst (λ (t : Option (List ℕ)). TakesInput t before.input after.input) (same ∙ is)
      run.streams.taken

  reads : (rest : Course) → run.course.taken ≡ rest.taken → run.course.at_end ≡ rest.at_end →
      (taken : List ℕ) → rest.taken ≡ Some taken → rest.at_end ≡ true → IsAtEnd after.input.left
  reads rest same ended taken is at =
      subst (λ (t : Option (List ℕ)). ReadsAll t after.input.left) (same ∙ is)
      (run.streams.at_end (ended ∙ at))

  answered : (told_by : Answered run) →
      GoesWith (opening_stage root run.files) (IsSessionCourse root) run.course ⊎
      ((k : ℕ) × (opening_stage root run.files).Refuses told_by.response k) →
      AnswersScript (session_on g root (unmarked_doc doc)) script before after status
  answered told_by (inr refuses) =
      let are = subst (λ t. AreFiles t (dtd ∷ name ∷ []) run.files) is_told run.are_files in
      absurd ((opening_sure dtds one root run.files).refuses_or held told_by.response refuses.0 2
      refuses.1 (opens means told dtd root name run.files g doc are d e))
  answered told_by (inl w) =
      let are = subst (λ t. AreFiles t (dtd ∷ name ∷ []) run.files) is_told run.are_files in
      let same = (opening_sure dtds one root run.files).same w.x held w.count 2 w.opens
      (opens means told dtd root name run.files g doc are d e) in
      let at = sym (ap (λ (c : Course). c.ending) w.is_rest) ∙ told_by.is_response in
      let v = behind_files one root w.x held w.rest told_by.response same narrow at w.goes in
      let of_taken = ap (λ (c : Course). c.taken) w.is_rest
      ∙ ap (λ (c : Course). c.taken) v.is_rest in
      let of_end = ap (λ (c : Course). c.at_end) w.is_rest
      ∙ ap (λ (c : Course). c.at_end) v.is_rest in
      let last = sym (ap (λ (c : Course). c.ending) v.is_rest) ∙ at in
      let talk = subst (λ (s : PlainSession). Converses s v.rest) v.goes.1 v.goes.0 in
      let all = talked (session_on g root (unmarked_doc doc)) v.rest before.input.left
      after.input.left script told_by.response within is_left (takes v.rest of_taken)
      (reads v.rest of_taken of_end) last talk in
      record {
        silent = all.silent;
        out = all.out;
        place = all.place;
        replies = all.replies;
        written = subst
            (λ (p : PlainResponse). Appends before.output.written after.output.written p.output)
            all.is_response told_by.written;
        is_done = told_by.is_status ∙ ap (λ (p : PlainResponse). p.status) all.is_response;
      }

  guarded : HadNoMemory before after status ⊎ Answered run →
      HadNoMemory before after status ⊎ AnswersScript (session_on g root (unmarked_doc doc)) script
      before after status
  guarded (inl none) = inl none
  guarded (inr told_by) =
      inr (answered told_by
      (went_on (opening_stage root run.files) (IsSessionCourse root) run.course told_by.response
      run.is_defined told_by.is_response))

pub guards_session : (S : Type 0) → ReadsOneDtd → MeansDtd → ReadsOne → AnswersWithoutFault S →
    SessionsAreGuarded S
guards_session S dtds means one complete line before after status run told dtd root name script g
    doc is is_told is_left quiet d e narrow within =
    let this = subst (λ (l : Option PlainCommandLine). Runs l before after status) is run in
    guarded S dtds means one told dtd root name script g doc before after status this is_told
    is_left d e narrow within
    (complete (Some (on_document Session dtd root name)) before after status this quiet.shelf
    quiet.input quiet.output)
