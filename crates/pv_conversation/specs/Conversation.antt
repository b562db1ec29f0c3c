-- What the parts of a conversation return.
use Rattle.std.specs.Prelude.{◌≡◌, ◌≢◌, ◌⊎◌, ◌≤◌, ◌<◌, ℕ, suc, Bool, true, false, List, [], ◌++◌}
use Rattle.std.specs.Prelude.{length, map, codes, decimal, Option, Result, Ok, Err}
use Rattle.std.specs.List.{AllByRecursion}
use Rattle.std.specs.Io.KnownBytes.{Appends}
use Rattle.pv_io.specs.Causes.{AppendsFront}
use Rattle.pv_io.specs.declared.source.Failed.{Failed}
use Rattle.pv_script.specs.Commands.{SpellsCommand}
use Rattle.pv_words.specs.Lines.{FEED, without_returns, HasNoFeed, with_feeds}
use Rattle.pv_script.specs.Replies.{reply_bytes}
use Rattle.pv_script.specs.TakenLines.{HeldLine, MAX_LINE_BYTES}
use Rattle.pv_script.specs.declared.commands.Command.TheVariants.{Quit}
use Rattle.pv_script.specs.declared.replies.Reply.{Reply}
use Rattle.pv_script.specs.declared.replies.Reply.TheVariants.{NoMemory}
use Rattle.pv_session.specs.Sessions.{PlainSession}
use Rattle.pv_conversation.specs.declared.talk.Next.{Next}
use Rattle.pv_conversation.specs.declared.talk.Next.TheVariants as next
use Rattle.pv_conversation.specs.declared.talk.Reading.{Reading}
use Rattle.pv_opening.specs.declared.status.Status.{Status}
use Rattle.pv_conversation.specs.CountedLines.{CountedSession, CountsFirst, CountsOneLine}
use Rattle.pv_conversation.specs.CountedLines.{CountsLines}
use Rattle.pv_conversation.specs.CountedLines.{CountsScript, lines_answered}
use Rattle.pv_opening.specs.Course.{RunEnding, output_fault}
use Rattle.pv_opening.specs.Devices.{InputNow, OutputNow}
use Rattle.pv_opening.specs.Returns.{GoesThrough}
use Rattle.pv_conversation.specs.Session.{Converses, EndsSession, Replies, RepliesTo, all_told}
use Rattle.pv_conversation.specs.Session.{at_line, limited}

-- the text of the reply to a line, or that there was no memory for it, which changes nothing
pub data IsReplyText (before : CountedSession) (line : List ℕ) (after : CountedSession)
    (text : List ℕ) : Type 0 where
  replied : (told : Reply) → RepliesTo before.session line told after.session →
      text ≡ reply_bytes told → CountsOneLine line before.checked after.checked →
      IsReplyText before line after text
  without_memory : after.session ≡ before.session → text ≡ reply_bytes NoMemory →
      CountsOneLine line before.checked after.checked → IsReplyText before line after text

-- the reply to a line was written so
abbrev pub RepliesWith : CountedSession → List ℕ → CountedSession → (List ℕ → Type 0) → Type 0
RepliesWith before line after AreWritten =
    (text : List ℕ) × IsReplyText before line after text × AreWritten text

-- a line was answered, and the session goes on, or the line ends it and counts nothing
abbrev pub AnswersLine : CountedSession → List ℕ → CountedSession → (List ℕ → Type 0) → Bool →
    Type 0
AnswersLine before line after AreWritten true = RepliesWith before line after AreWritten
AnswersLine before line after AreWritten false =
    SpellsCommand line Quit × (after.checked ≡ before.checked) × AreWritten []

-- a line without an LF in it, and not too long
abbrev pub IsScriptLine : List ℕ → Type 0
IsScriptLine line = HasNoFeed line × (length line ≤ MAX_LINE_BYTES)

-- all of these numbers are below this one
abbrev pub AllBelow : ℕ → List ℕ → Type 0
AllBelow number silent = AllByRecursion (λ n. n < number) silent

-- The bytes so far are lines that were answered, each with its LF, and what is held of the next;
-- the replies were written so.
pub record Conversed (AreWritten : List ℕ → Type 0) (first : CountedSession) (script : List ℕ)
    (current : CountedSession) (held : HeldLine) (number : ℕ) : Type 0 where
  pub lines : List (List ℕ)
  pub is_cut : script ≡ with_feeds lines ++ held.bytes
  pub are_lines : AllByRecursion IsScriptLine lines
  pub is_begun : IsScriptLine held.bytes
  pub goes_on : held.whole ≡ false
  pub counted : number ≤ suc (length script)
  pub silent : List ℕ
  pub below : AllBelow number silent
  pub out : List ℕ
  pub replies : Replies silent 1 first.session (map without_returns lines) out
      (at_line number current.session)
  pub counts : CountsLines silent 1 (map without_returns lines) first.checked current.checked
  pub written : AreWritten out

-- The session ended so over these bytes, the counter standing at this number, and its replies were
-- written so. Before the end of the script it may end so at a fault of the output, too.
pub record EndedWith (first : CountedSession) (now : ℕ) (script : List ℕ) (at_end : Bool)
    (ending : List ℕ → RunEnding) (AreWritten : List ℕ → Type 0) : Type 0 where
  pub silent : List ℕ
  pub out : List ℕ
  pub ends : EndsSession first.session script silent at_end (ending out)
  pub fails : at_end ≡ false → EndsSession first.session script silent at_end (output_fault out)
  pub counts : CountsFirst silent (lines_answered at_end script) first.checked now
  pub written : AreWritten out

-- the limit that a byte passes after the longest script: that on the line, if it is no LF and the
-- line has no room
abbrev pub IsNext : HeldLine → ℕ → Next → Type 0
IsNext held b next.LineLimit = (b ≢ FEED) × (length held.bytes ≡ MAX_LINE_BYTES)
IsNext held b next.ScriptLimit = (b ≡ FEED) ⊎ (length held.bytes ≢ MAX_LINE_BYTES)
IsNext held b other = ⊥

-- what comes where this byte stands after the longest script
abbrev pub IsBeyond : HeldLine → ℕ → Next → Next → Type 0
IsBeyond held b next.More after = IsNext held b after
IsBeyond held b other after = after ≡ other

-- a piece after which more is asked for passes no limit on the script
abbrev pub IsWithinScript : ℕ → ℕ → Next → Type 0
IsWithinScript size left next.More = size ≤ left
IsWithinScript size left other = Unit {0}

-- how a session goes on after a piece, or ends, but for the line of a limit; its replies were
-- written so
abbrev pub ComesNext : (List ℕ → Type 0) → CountedSession → List ℕ → CountedSession → Reading →
    Next → Type 0
ComesNext AreWritten first script current reading next.More =
    Conversed AreWritten first script current reading.lines reading.number
ComesNext AreWritten first script current reading next.Quit =
    EndedWith first current.checked script false all_told AreWritten
ComesNext AreWritten first script current reading next.LineLimit =
    EndedWith first current.checked script false (λ out. limited out
    (codes "limit line " ++ decimal reading.number)) AreWritten
ComesNext AreWritten first script current reading next.ScriptLimit =
    EndedWith first current.checked script false (λ out. limited out (codes "limit script")) AreWritten

-- how a session goes on after a piece, or ends, its replies written so; or the output failed, and
-- the replies were written otherwise
abbrev pub ComesOrFails : (List ℕ → Type 0) → (List ℕ → Type 0) → CountedSession → List ℕ →
    CountedSession → Reading → Result Next Failed → Type 0
ComesOrFails AreWritten AreCutOff first script current reading (Ok after) =
    ComesNext AreWritten first script current reading after
ComesOrFails AreWritten AreCutOff first script current reading (Err failed) =
    EndedWith first current.checked script false output_fault AreCutOff

-- all lines were answered, at the end of the script
abbrev pub Finishes : Option (List ℕ) → CountedSession → ℕ → List ℕ → Option (List ℕ) →
    Result (Unit {0}) Failed → Type 0
Finishes old first checked script now (Ok done) =
    EndedWith first checked script true all_told (Appends old now)
Finishes old first checked script now (Err failed) =
    EndedWith first checked script true all_told (AppendsFront old now)

-- what a conversation did: a course, which the input and the output show, and how many lists it
-- checked
pub record Talked {S : Type 0} (session : PlainSession) (input input_now : InputNow S)
    (output output_now : OutputNow) (checked checked_now : ℕ) (status : Status) : Type 0 where
  pub talk : GoesThrough (Converses session) input input_now output output_now status
  pub counts : CountsScript talk.course checked checked_now
