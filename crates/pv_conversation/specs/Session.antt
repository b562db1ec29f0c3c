-- What `session DTD ROOT DOC` responds: one reply for each line of its script.
use Rattle.std.specs.Prelude.{◌≡◌, ◌<◌, ◌≤◌, ◌↔◌, ℕ, suc, Bool, true, false, nat_eq, List, []}
use Rattle.std.specs.Prelude.{◌∷◌, ◌++◌, IfSome, length, codes, decimal, Option, Some, None}
use Rattle.std.specs.List.{list_any}
use Rattle.pv_dtd.specs.Plain.{PlainDtd}
use Rattle.pv_tree.specs.Marks.{unmarked_doc}
use Rattle.pv_missing.specs.Completions.{IsPotentiallyValid}
use Rattle.pv_tree.specs.Plain.{PlainDoc}
use Rattle.pv_tree.specs.View.{view}
use Rattle.pv_tree.specs.declared.nodes.Mark.{Mark}
use Rattle.pv_write.specs.Text.{doc_text}
use Rattle.pv_edit.specs.declared.answers.Done.{Done as WhatWasDone}
use Rattle.pv_script.specs.Commands.{IsNoCommand, SpellsCommand}
use Rattle.pv_words.specs.Lines.{lines_of}
use Rattle.pv_script.specs.Replies.{reply_bytes}
use Rattle.pv_words.specs.Words.{with_feed}
use Rattle.pv_script.specs.declared.commands.Command.{Command}
use Rattle.pv_script.specs.declared.commands.Command.TheVariants as command
use Rattle.pv_script.specs.declared.replies.Reply.{Reply}
use Rattle.pv_script.specs.declared.replies.Reply.TheVariants as reply
use Rattle.pv_cache.specs.Rows.{AreRows}
use Rattle.pv_edit.specs.declared.answers.VerdictRow.{VerdictRow}
use Rattle.pv_session.specs.Sessions.{PlainSession, session_on, stamped_document}
use Rattle.pv_session.specs.Steps.{PlainAnswer, is_done, lacks_shape, is_past_limit, is_impossible}
use Rattle.pv_session.specs.Steps.{lacks_history, IsEditStep, IsUndoStep, IsRedoStep}
use Rattle.pv_opening.specs.declared.status.Status.TheVariants.{Done, Limit}
use Rattle.pv_opening.specs.Course.{Course, RunEnding, responds, input_fault, output_fault}
use Rattle.pv_opening.specs.Course.{no_memory as short_of_memory, without_input}
use Rattle.pv_conversation.specs.MissingReplies.{TellsCompletion, TellsNeed}
use Rattle.pv_conversation.specs.Offers.{TellsOffer}
use Rattle.pv_opening.specs.Documents.{PlainOpened}
use Rattle.pv_opening.specs.Possibility.{width_stage}
use Rattle.pv_conversation.specs.Script.{MAX_SCRIPT_BYTES, IsWithin, has_long_line, lines_within}
use Rattle.pv_opening.specs.Stage.{Stage, without_fetch, followed_by, Behind}

-- beginning a session, which nothing refuses
abbrev pub beginning_stage : List ℕ → PlainDtd → PlainDoc Mark → Stage PlainSession
beginning_stage root g doc =
    without_fetch (λ session. session ≡ session_on g root (unmarked_doc doc)) (λ r. ⊥)

-- beginning a session on a document, no list being too wide
abbrev pub guarding_stage : List ℕ → PlainDtd → PlainDoc Mark → Stage PlainSession
guarding_stage root g doc = followed_by (width_stage g doc) (λ _. beginning_stage root g doc)

-- the reply to an edit, an undo or a redo that is answered so
abbrev pub reply_to : PlainAnswer → Reply
reply_to (is_done checked left bad) =
    reply.Okay (record { checked = checked; left = left; bad = bad })
reply_to (lacks_shape reason) = reply.Shape reason
reply_to is_past_limit = reply.Limit
reply_to (is_impossible path) = reply.Impossible path
reply_to lacks_history = reply.NoHistory

-- what was done where this is the reply
abbrev pub done_of : Reply → Option WhatWasDone
done_of (reply.Okay done) = Some done
done_of other = None

-- What `ok` tells of a move: at most two lists are changed, and the third number is 0 exactly where
-- inserting elements can make the document after the move valid (`∥ ∥₁` says that they can, and
-- not which).
pub record TellsMove (after : PlainSession) (done : WhatWasDone) : Type 0 where
  pub few : done.checked ≤ 2
  pub possible : (done.bad ≡ 0) ↔ ∥ IsPotentiallyValid after.dtd after.root (view after.doc.root) ∥₁

-- the reply is that to the answer of such a step
abbrev pub RepliesByStep : (PlainAnswer → PlainSession → Type 0) → Reply → PlainSession → Type 0
RepliesByStep IsStep told after =
    (answer : PlainAnswer) × IsStep answer after × (told ≡ reply_to answer) ×
    IfSome (done_of told) (TellsMove after)

-- the reply to a command, and the session after it; `quit` has no reply
abbrev pub RepliesBy : PlainSession → Command → Reply → PlainSession → Type 0
RepliesBy before (command.Edit edit) told after =
    RepliesByStep (λ answer later. IsEditStep before edit answer later) told after
RepliesBy before command.Undo told after =
    RepliesByStep (λ answer later. IsUndoStep before answer later) told after
RepliesBy before command.Redo told after =
    RepliesByStep (λ answer later. IsRedoStep before answer later) told after
RepliesBy before command.History told after = (told ≡ reply.History before.past) × (after ≡ before)
RepliesBy before command.Show told after =
    (told ≡ reply.Show (doc_text before.doc)) × (after ≡ before)
RepliesBy before command.Verdicts told after =
    (rows : List VerdictRow) × (told ≡ reply.Verdicts rows) ×
    AreRows (stamped_document before) rows × (after ≡ before)
RepliesBy before command.Need told after = TellsNeed before told × (after ≡ before)
RepliesBy before command.Complete told after = TellsCompletion before told × (after ≡ before)
RepliesBy before (command.Offer ask) told after = TellsOffer before ask told × (after ≡ before)
RepliesBy before command.Quit told after = ⊥

-- what a line that doesn't end the session does: the reply to it, and the session after it
pub data RepliesTo (before : PlainSession) (line : List ℕ) (told : Reply) (after : PlainSession) :
    Type 0 where
  unknown : IsNoCommand line → told ≡ reply.NoCommand → after ≡ before →
      RepliesTo before line told after
  known : (command : Command) → SpellsCommand line command → RepliesBy before command told after →
      RepliesTo before line told after

abbrev pub is_among : ℕ → List ℕ → Bool
is_among number numbers = list_any (nat_eq number) numbers

-- where replies end: in a session, the next line having this number; or at a `quit`
pub data Place : Type 0 where
  at_line : ℕ → PlainSession → Place
  at_quit : Place

-- The replies to lines, the first of which has this number, and where they end. `silent` are the
-- numbers of the lines that there was no memory for: such a line changes nothing. A `quit` that
-- isn't among them ends the session.
pub data Replies (silent : List ℕ) : ℕ → PlainSession → List (List ℕ) → List ℕ → Place →
    Type 0 where
  no_lines : {number : ℕ} {session : PlainSession} {out : List ℕ} {place : Place} → out ≡ [] →
      place ≡ at_line number session → Replies silent number session [] out place
  without_memory : {number : ℕ} {session : PlainSession} {line : List ℕ} {lines : List (List ℕ)}
      {rest out : List ℕ} {place : Place} →
      is_among number silent ≡ true → Replies silent (suc number) session lines rest place →
      out ≡ reply_bytes reply.NoMemory ++ rest →
      Replies silent number session (line ∷ lines) out place
  answered : {number : ℕ} {session after : PlainSession} {line : List ℕ} {lines : List (List ℕ)}
      {told : Reply} {rest out : List ℕ} {place : Place} →
      is_among number silent ≡ false → RepliesTo session line told after →
      Replies silent (suc number) after lines rest place →
      out ≡ reply_bytes told ++ rest → Replies silent number session (line ∷ lines) out place
  ended : {number : ℕ} {session : PlainSession} {line : List ℕ} {lines : List (List ℕ)}
      {out : List ℕ} {place : Place} →
      is_among number silent ≡ false → SpellsCommand line command.Quit → out ≡ [] →
      place ≡ at_quit →
      Replies silent number session (line ∷ lines) out place

-- all was done, and these are the replies
abbrev pub all_told : List ℕ → RunEnding
all_told out = responds (record { status = Done; output = out })

-- the replies, and after them the line of a limit
abbrev pub limited : List ℕ → List ℕ → RunEnding
limited out text = responds (record { status = Limit; output = out ++ with_feed text })

-- How a session that was begun ends over the bytes that were taken from its input, which are its
-- script or a front of it.
pub data EndsSession (session : PlainSession) (script silent : List ℕ) (at_end : Bool)
    (ending : RunEnding) : Type 0 where
  -- the script's end was reached: all lines have their replies, a last one without LF too
  finished : (out : List ℕ) (place : Place) → at_end ≡ true → IsWithin script →
      Replies silent 1 session (lines_of script) out place →
      ending ≡ all_told out → EndsSession session script silent at_end ending
  -- a `quit` was reached
  quitted : (out : List ℕ) → Replies silent 1 session (lines_within script) out at_quit →
      ending ≡ all_told out → EndsSession session script silent at_end ending
  -- the next line is too long
  past_line : (out : List ℕ) (number : ℕ) (after : PlainSession) → has_long_line script ≡ true →
      Replies silent 1 session (lines_within script) out (at_line number after) →
      ending ≡ limited out (codes "limit line " ++ decimal number) →
      EndsSession session script silent at_end ending
  -- the script is too long
  past_script : (out : List ℕ) (number : ℕ) (after : PlainSession) → has_long_line script ≡ false →
      MAX_SCRIPT_BYTES < length script →
      Replies silent 1 session (lines_within script) out (at_line number after) →
      ending ≡ limited out (codes "limit script") → EndsSession session script silent at_end ending
  -- the input failed, after the replies to all lines that an LF ends
  input_failed : (out : List ℕ) (number : ℕ) (after : PlainSession) → IsWithin script →
      Replies silent 1 session (lines_within script) out (at_line number after) →
      ending ≡ input_fault out →
      EndsSession session script silent at_end ending
  -- the output failed, after the replies to these lines or at one of them
  output_failed : (lines more : List (List ℕ)) (out : List ℕ) (place : Place) →
      lines_within script ≡ lines ++ more →
      Replies silent 1 session lines out place → ending ≡ output_fault out →
      EndsSession session script silent at_end ending

-- what a session does that was begun: it ends over what was taken from its input, or there was no
-- memory to take any
pub data Converses (session : PlainSession) (course : Course) : Type 0 where
  ended_over : (script : List ℕ) → course.fetches ≡ 0 → course.taken ≡ Some script →
      EndsSession session script course.silent course.at_end course.ending →
      Converses session course
  without_room : course ≡ without_input 0 short_of_memory → Converses session course

-- what `session` does after the opened files
abbrev pub IsSessionCourse : List ℕ → PlainOpened → Course → Type 0
IsSessionCourse root opened = Behind (guarding_stage root opened.dtd opened.doc) Converses
