-- A drill has one response.
use Rattle.std.proofs.Common.{◌≡◌, ℕ, List, Option, [], ◌∷◌, ap, ◌∙◌, sym, subst}
use Rattle.pv_cache.proofs.OneRows.{one_open}
use Rattle.pv_dtd.specs.Laws.{OneMeaning}
use Rattle.pv_dtd.specs.Plain.{PlainDtd}
use Rattle.pv_drill.specs.Drill.{DRILL_DTD, drill_lines, drill_text}
use Rattle.pv_edit.specs.declared.answers.Done.{Done}
use Rattle.pv_session.specs.Sessions.{PlainSession, stamped_document}
use Rattle.pv_cli.specs.declared.commands.drill.Counts.{Counts}
use Rattle.pv_opening.specs.declared.status.Status.TheVariants.{Done as AllDone}
use Rattle.pv_opening.specs.Documents.{PlainOpened, document_stage}
use Rattle.pv_cli.specs.Drill.{CountsReplies, DRILL_ROOT, TellsCounts, counts_text, counts_with}
use Rattle.pv_cli.specs.Drill.{drill_stage, no_counts, reading_stage}
use Rattle.pv_opening.specs.Opening.{dtd_stage}
use Rattle.pv_opening.specs.Response.{PlainResponse, with_line}
use Rattle.pv_conversation.specs.Session.{done_of, guarding_stage}
use Rattle.pv_opening.specs.Stage.{Stage}
use Rattle.pv_conversation.proofs.Likeness.{done_alike}
use Rattle.pv_opening.proofs.OneOpening.{AreSameOpened, IsEqual, IsSure, ReadsOne, document_sure}
use Rattle.pv_opening.proofs.OneOpening.{dtd_sure, followed_sure, sure_at}
use Rattle.pv_conversation.proofs.OneReplies.{AnswersOnce, one_reply}
use Rattle.pv_conversation.proofs.OneSession.{guarding_sure}

one_counting : AnswersOnce →
    (session : PlainSession) (before : Counts) (lines : List (List ℕ)) (after later : PlainSession)
    (counts also : Counts) →
    CountsReplies session before lines after counts →
    CountsReplies session before lines later also → (after ≡ later) × (counts ≡ also)
one_counting once session before [] after later counts also here there =
    (here.0 ∙ sym there.0, here.1 ∙ sym there.1)
one_counting once session before (line ∷ lines) after later counts also here there =
    let same = one_reply once session line here.0 there.0 here.1 there.1 here.2 there.2 in
    let moved = subst
    (λ (s : PlainSession). CountsReplies s (counts_with before (done_of there.0)) lines later
    also) (sym same.1) there.3 in
    let counted = subst
    (λ (d : Option Done). CountsReplies here.1 (counts_with before d) lines later also)
    (sym (done_alike here.0 there.0 same.0)) moved in
    one_counting once here.1 (counts_with before (done_of here.0)) lines after later counts also
    here.3 counted

pub one_drill : AnswersOnce → (n : ℕ) (session same : PlainSession) (r also : PlainResponse) →
    session ≡ same → TellsCounts n session r → TellsCounts n same also → r ≡ also
one_drill once n session same r also is tells others =
    let moved = subst
    (λ (s : PlainSession). CountsReplies s no_counts (drill_lines n) others.after others.counts)
    (sym is) others.answers in
    let both = one_counting once session no_counts (drill_lines n) tells.after others.after
    tells.counts others.counts tells.answers moved in
    let left = one_open (stamped_document tells.after) (stamped_document others.after)
    tells.open_lists others.open_lists (ap stamped_document both.0) tells.left others.left in
    tells.is_response ∙ ap (λ (c : Counts). with_line AllDone (counts_text n c tells.open_lists))
    both.1 ∙ ap (λ k. with_line AllDone (counts_text n others.counts k)) left
    ∙ sym others.is_response

reading_stage_sure : OneMeaning → ReadsOne → (n : ℕ) → IsSure (reading_stage n) AreSameOpened
reading_stage_sure one documents n =
    let read : PlainDtd → Stage PlainOpened = λ g. document_stage DRILL_ROOT g (drill_text n) in
    followed_sure (dtd_stage DRILL_DTD) (dtd_stage DRILL_DTD) IsEqual read read AreSameOpened
    (dtd_sure one DRILL_DTD)
    (sure_at read AreSameOpened (λ g. document_sure documents DRILL_ROOT g (drill_text n)))

pub drill_sure : OneMeaning → ReadsOne → (n : ℕ) → IsSure (drill_stage n) IsEqual
drill_sure one documents n =
    let begin : PlainOpened → Stage PlainSession =
    λ opened. guarding_stage DRILL_ROOT opened.dtd opened.doc in
    followed_sure (reading_stage n) (reading_stage n) AreSameOpened begin begin IsEqual
    (reading_stage_sure one documents n) (guarding_sure documents.spells_one DRILL_ROOT)
