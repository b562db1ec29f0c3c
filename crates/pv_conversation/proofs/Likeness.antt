-- Replies and outputs that are alike.
use Rattle.std.proofs.Common.{◌≡◌, ◌++◌, ◌∙◌, List, ap, append_assoc, refl, sym, ℕ}
use Rattle.pv_script.specs.Replies.{reply_bytes}
use Rattle.pv_script.specs.declared.replies.Reply.{Reply}
use Rattle.pv_conversation.specs.Alike.{RepliesAlike, OutputsAlike, ResponsesAlike, are_completions, are_one, begins_alike, ends_alike}
use Rattle.pv_opening.specs.Course.{RunEnding, responds}
use Rattle.pv_opening.specs.Response.{PlainResponse}
use Rattle.pv_conversation.specs.Session.{done_of}
use Rattle.pv_opening.specs.declared.status.Status.{Status}

-- replies that are alike tell the same of what was done
pub done_alike : (told also : Reply) → RepliesAlike told also → done_of told ≡ done_of also
done_alike told also (are_one e) = ap done_of e
done_alike told also (are_completions k body other e f) = ap done_of e ∙ sym (ap done_of f)

pub alike_behind : (out also more : List ℕ) → OutputsAlike out also → OutputsAlike (out ++ more) (also ++ more)
alike_behind out also more (ends_alike e) = ends_alike (ap (λ h. h ++ more) e)
alike_behind out also more (begins_alike told other rest others alike below e f) =
    begins_alike told other (rest ++ more) (others ++ more) alike (alike_behind rest others more below)
    (ap (λ h. h ++ more) e ∙ append_assoc (reply_bytes told) rest more) (ap (λ h. h ++ more) f ∙ append_assoc (reply_bytes other) others more)

pub one_response_alike : (r also : PlainResponse) → r ≡ also → ResponsesAlike r also
one_response_alike r also e = record { status = ap (λ (p : PlainResponse). p.status) e; output = ends_alike (ap (λ (p : PlainResponse). p.output) e) }

pub same_response : (ending : RunEnding) (r s : PlainResponse) → ending ≡ responds r →
    ending ≡ responds s → r ≡ s
same_response ending r s at is = cc

-- two endings with one status and outputs that are alike
pub endings_alike : (status : Status) (out also : List ℕ) (ending other : RunEnding) (r s : PlainResponse) → ending ≡ responds r → other ≡ responds s →
    ending ≡ responds (record { status = status; output = out }) → other ≡ responds (record { status = status; output = also }) → OutputsAlike out also → ResponsesAlike r s
endings_alike status out also ending other r s at on is are alike =
    rw (same_response ending r (record { status = status; output = out }) at is, same_response other s (record { status = status; output = also }) on are)
    (record { status = refl; output = alike })
