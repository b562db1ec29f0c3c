-- The reply of a session to `need`, where it is answered of the document that the session began on.
use Rattle.std.proofs.Common.{◌≡◌, ℕ, List, [], true, codes, refl, sym, ap, arith}
use Rattle.std.proofs.lemmas.List.{append-nil}
use Rattle.pv_cache.specs.Stamps.{doc_as}
use Rattle.pv_complete.specs.NeededElements.{HasCause}
use Rattle.pv_complete.specs.declared.errors.NeedError.{NeedError}
use Rattle.pv_complete.specs.declared.errors.NeedError.TheVariants as need_error
use Rattle.pv_conversation.specs.MissingReplies as reason
use Rattle.pv_conversation.specs.Session.{EndsSession, answered, at_line, finished, known, no_lines}
use Rattle.pv_conversation.proofs.MissingElements.{cause_as, needs_as, wide_as}
use Rattle.pv_dtd.specs.Plain.{PlainDtd}
use Rattle.pv_fresh.specs.Answers.{IsImpossibleAt}
use Rattle.pv_many.specs.MissingAnswers.{TellsMissing, is_heavy, is_impossible, is_needed, is_wide}
use Rattle.pv_opening.specs.Course.{responds}
use Rattle.pv_opening.specs.Response.{PlainResponse}
use Rattle.pv_opening.specs.declared.status.Status.TheVariants.{Done}
use Rattle.pv_reach.proofs.OtherMarks.{view_as}
use Rattle.pv_script.specs.Replies.{reply_bytes}
use Rattle.pv_script.specs.declared.commands.Command.TheVariants as command
use Rattle.pv_script.specs.declared.replies.Reply.{Reply}
use Rattle.pv_script.specs.declared.replies.Reply.TheVariants as reply
use Rattle.pv_session.specs.Sessions.{session_on}
use Rattle.pv_tree.specs.Marks.{unmarked_doc}
use Rattle.pv_tree.specs.Plain.{PlainDoc}
use Rattle.pv_tree.specs.declared.nodes.Mark.{Mark}

-- the marks of the session's document, and of what it began on
abbrev at_begin : Unit {0} → ℕ
at_begin mark = 0

abbrev unmarked : Mark → Unit {0}
unmarked mark = tt

module _ (root : List ℕ) (g : PlainDtd) (doc : PlainDoc Mark) where
  -- the session ends with the reply to its only line
  ends_with : (told : Reply) (r : PlainResponse) →
      reason.TellsNeed (session_on g root (unmarked_doc doc)) told →
      r ≡ record { status = Done; output = reply_bytes told } →
      EndsSession (session_on g root (unmarked_doc doc)) (codes "need") [] true (responds r)
  ends_with told r tells is =
      finished (reply_bytes told) (at_line 2 (session_on g root (unmarked_doc doc))) refl
      (record { lines = refl; whole = omega arith })
      (answered refl
      (known command.Need (record { text = refl; numbers = tt }) (tells, refl))
      (no_lines refl refl) (sym (append-nil (reply_bytes told))))
      (ap responds is)

  -- a cause that a fresh check finds stands of the session's document too
  cause_begun : (e : NeedError) → HasCause g root doc e →
      HasCause g root (doc_as at_begin (unmarked_doc doc)) e
  cause_begun e has =
      cause_as at_begin g root (unmarked_doc doc) e (cause_as unmarked g root doc e has)

  impossible_begun : (path : List ℕ) → IsImpossibleAt root g doc path →
      IsImpossibleAt root g (doc_as at_begin (unmarked_doc doc)) path
  impossible_begun path is =
      let stops = cause_begun (need_error.Impossible path)
      (record { narrow = is.narrow; first = is.first }) in
      record {
        narrow = stops.narrow;
        impossible = λ possible.
            (let bare = rw (view_as at_begin (unmarked_doc doc).root) at possible in
            is.impossible (rw (view_as unmarked doc.root) at bare));
        first = stops.first;
      }

  pub need_replies : (r : PlainResponse) → TellsMissing root g doc r →
      EndsSession (session_on g root (unmarked_doc doc)) (codes "need") [] true (responds r)
  need_replies r (is_needed k needs is) =
      ends_with (reply.Need k) r
      (reason.is_needed k ∣ needs_as at_begin g root (unmarked_doc doc) k
      (needs_as unmarked g root doc k needs) ∣₁ refl) is
  need_replies r (is_impossible path impossible is) =
      ends_with (reply.Impossible path) r
      (reason.is_withheld (reason.is_impossible path ∣ impossible_begun path impossible ∣₁ refl)) is
  need_replies r (is_wide path wide is) =
      ends_with (reply.Wide path) r
      (reason.is_withheld (reason.is_wide path ∣ wide_as at_begin g root (unmarked_doc doc) path
      (wide_as unmarked g root doc path wide) ∣₁ refl)) is
  need_replies r (is_heavy heavy is) =
      ends_with reply.Heavy r
      (reason.is_withheld (reason.is_heavy ∣ cause_begun need_error.TooHeavy heavy ∣₁ refl)) is
