-- Laws on what a session does.
use Rattle.std.specs.Prelude.{◌≡◌, Contains, IsTrue, ℕ, false, List, ◌++◌}
use Rattle.pv_edit.specs.GivenNames.{is_new_name}
use Rattle.pv_edit.specs.declared.answers.Done.{Done as WhatWasDone}
use Rattle.pv_edit.specs.declared.asks.Ask.{Ask}
use Rattle.pv_offer.specs.Offers.{declared_names, edit_with}
use Rattle.pv_script.specs.Commands.{SpellsCommand}
use Rattle.pv_script.specs.declared.commands.Command.TheVariants as command
use Rattle.pv_script.specs.declared.replies.Reply.{Reply}
use Rattle.pv_script.specs.declared.replies.Reply.TheVariants as reply
use Rattle.pv_session.specs.Sessions.{PlainSession}
use Rattle.pv_conversation.specs.Alike.{RepliesAlike, OutputsAlike}
use Rattle.pv_opening.specs.Course.{RunEnding, input_fault}
use Rattle.pv_conversation.specs.Session.{EndsSession, Place, at_line, at_quit, Replies, RepliesTo}

-- the replies to a piece of a script, and then those to the lines after it, are the replies to
-- both
abbrev pub JoinsReplies : Type 0
JoinsReplies = (silent : List ℕ) (number next : ℕ) (session middle : PlainSession)
    (lines more : List (List ℕ)) (out rest : List ℕ) (place : Place) →
    Replies silent number session lines out (at_line next middle) →
    Replies silent next middle more rest place →
    Replies silent number session (lines ++ more) (out ++ rest) place

-- lines after a `quit` have no reply
abbrev pub EndsAtQuit : Type 0
EndsAtQuit = (silent : List ℕ) (number : ℕ) (session : PlainSession) (lines more : List (List ℕ))
    (out : List ℕ) →
    Replies silent number session lines out at_quit →
    Replies silent number session (lines ++ more) out at_quit

-- a line has one reply in a session, but for the document of a completion, and one session after
-- it
abbrev pub HasOneReply : Type 0
HasOneReply = (session : PlainSession) (line : List ℕ) (reply also : Reply)
    (after later : PlainSession) →
    RepliesTo session line reply after → RepliesTo session line also later →
    RepliesAlike reply also × (after ≡ later)

-- What `offer` told is kept when the edit is tried with a name: one of those it told is made, and
-- another declared name is refused, since more lists would be impossible.
pub record IsKeptFor (names : List (List ℕ)) (x : List ℕ) (told : Reply) : Type 0 where
  pub made : Contains names x → (done : WhatWasDone) × (told ≡ reply.Okay done)
  pub refused : (Contains names x → ⊥) → (path : List ℕ) × (told ≡ reply.Impossible path)

-- A line that spells `offer` is answered by names, and the next line spells the edit that it asked
-- of, with a declared name, which is a Name; no line is answered for want of memory.
abbrev pub OffersAreKept : Type 0
OffersAreKept = (session behind after : PlainSession) (line next : List ℕ) (ask : Ask)
    (names : List (List ℕ)) (x : List ℕ) (told : Reply) →
    SpellsCommand line (command.Offer ask) → RepliesTo session line (reply.Offer names) behind →
    Contains (declared_names session.dtd) x → IsTrue (is_new_name x) →
    SpellsCommand next (command.Edit (edit_with ask x)) → RepliesTo behind next told after →
    IsKeptFor names x told

-- lines have one output, but for the documents of completions, and lead to one place, counted from
-- any number and begun in any session, where there was no memory for the same of them
abbrev pub HasOneOutput : Type 0
HasOneOutput = (silent : List ℕ) (number : ℕ) (session : PlainSession) (lines : List (List ℕ))
    (out also : List ℕ) (place spot : Place) →
    Replies silent number session lines out place → Replies silent number session lines also spot →
    OutputsAlike out also × (place ≡ spot)

-- Where a session ends before the end of its script was reached, and its input didn't fail, bytes
-- that come after change nothing: so it ends in one way in whatever pieces the script comes.
abbrev pub MoreChangesNothing : Type 0
MoreChangesNothing = (session : PlainSession) (script more silent : List ℕ) (ending : RunEnding) →
    ((out : List ℕ) → ending ≡ input_fault out → ⊥) →
    EndsSession session script silent false ending →
    EndsSession session (script ++ more) silent false ending
