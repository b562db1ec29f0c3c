-- What `drill N` responds: counts of the replies in a session on the document of the drill.
use Rattle.std.specs.Prelude.{◌≡◌, ◌≤◌, ℕ, ◌+◌, ◌*◌, ◌^◌, List, [], ◌∷◌, ◌++◌, codes, decimal}
use Rattle.std.specs.Prelude.{Option, Some, None}
use Rattle.pv_edit.specs.declared.answers.Done.{Done as WhatWasDone}
use Rattle.pv_script.specs.declared.replies.Reply.{Reply}
use Rattle.pv_drill.specs.Drill.{DRILL_DTD, drill_lines, drill_text}
use Rattle.pv_cache.specs.Moves.{HasOpen}
use Rattle.pv_session.specs.Sessions.{PlainSession, stamped_document}
use Rattle.pv_cli.specs.declared.commands.drill.Counts.{Counts}
use Rattle.pv_opening.specs.declared.status.Status.TheVariants.{Done}
use Rattle.pv_opening.specs.Course.{Course}
use Rattle.pv_opening.specs.Documents.{PlainOpened, document_stage}
use Rattle.pv_opening.specs.Opening.{dtd_stage}
use Rattle.pv_opening.specs.Response.{PlainResponse, with_line}
use Rattle.pv_conversation.specs.Session.{RepliesTo, done_of, guarding_stage}
use Rattle.pv_opening.specs.Stage.{Stage, followed_by, Behind, Responds}

-- no reply was counted
abbrev pub no_counts : Counts
no_counts = record { lines = 0; accepted = 0; refused = 0; checked = 0 }

-- counts with one more reply, by what was done where it is `ok`
abbrev pub counts_with : Counts → Option WhatWasDone → Counts
counts_with c (Some done) =
    record {
      lines = c.lines + 1;
      accepted = c.accepted + 1;
      refused = c.refused;
      checked = c.checked + done.checked;
    }
counts_with c None = record {
  lines = c.lines + 1;
  accepted = c.accepted;
  refused = c.refused + 1;
  checked = c.checked;
}

-- the reply to a line, counted, and the session after it
abbrev pub CountsLine : PlainSession → Counts → List ℕ → PlainSession → Counts → Type 0
CountsLine session before line after now =
    (told : Reply) × RepliesTo session line told after × (now ≡ counts_with before (done_of told))

-- the replies to these lines, one after the other, counted, and the session after them
abbrev pub CountsReplies : PlainSession → Counts → List (List ℕ) → PlainSession → Counts → Type 0
CountsReplies session before [] after counts = (after ≡ session) × (counts ≡ before)
CountsReplies session before (line ∷ lines) after counts =
    (told : Reply) × (next : PlainSession) × RepliesTo session line told next ×
    CountsReplies next (counts_with before (done_of told)) lines after counts

abbrev pub counts_text : ℕ → Counts → ℕ → List ℕ
counts_text n c open_lists =
    codes "drill " ++ decimal n ++ codes " lines " ++ decimal c.lines ++ codes " ok " ++
    decimal c.accepted ++ codes " refused "
    ++ decimal c.refused ++ codes " open " ++ decimal open_lists ++ codes " checked " ++
    decimal c.checked

-- the lines of the drill were answered, and so many lists are Possible after them
pub record TellsCounts (n : ℕ) (session : PlainSession) (r : PlainResponse) : Type 0 where
  pub after : PlainSession
  pub counts : Counts
  pub answers : CountsReplies session no_counts (drill_lines n) after counts
  pub open_lists : ℕ
  pub left : HasOpen (stamped_document after) open_lists
  pub is_response : r ≡ with_line Done (counts_text n counts open_lists)

-- the root of the drill's document
abbrev pub DRILL_ROOT : List ℕ
DRILL_ROOT = codes "doc"

-- reading the DTD of the drill and its document
abbrev pub reading_stage : ℕ → Stage PlainOpened
reading_stage n = followed_by (dtd_stage DRILL_DTD)
    (λ g. document_stage DRILL_ROOT g (drill_text n))

-- and beginning a session on it
abbrev pub drill_stage : ℕ → Stage PlainSession
drill_stage n = followed_by (reading_stage n)
    (λ opened. guarding_stage DRILL_ROOT opened.dtd opened.doc)

-- what `drill` does: the session on its document begins, and the lines are answered and counted
abbrev pub IsDrillCourse : ℕ → Course → Type 0
IsDrillCourse n = Behind (drill_stage n) (λ session. Responds (TellsCounts n session))

-- counts of so many lines at most
pub record IsCountOf (most : ℕ) (c : Counts) : Type 0 where
  pub lines : c.lines ≤ most
  pub accepted : c.accepted ≤ c.lines
  pub refused : c.refused ≤ c.lines
  pub checked : c.checked ≤ c.lines * 2 ^ 32
