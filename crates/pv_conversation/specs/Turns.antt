-- What the parts of a session return.
use Rattle.std.specs.Prelude.{◌≡◌, ◌++◌, ℕ, List, Option, Some, None, codes}
use Rattle.pv_script.specs.Commands.{SpellsCommand}
use Rattle.pv_script.specs.Replies.{reply_bytes}
use Rattle.pv_script.specs.declared.commands.Command.{Command}
use Rattle.pv_script.specs.declared.commands.Command.TheVariants as command
use Rattle.pv_script.specs.declared.replies.Reply.{Reply}
use Rattle.pv_session.specs.Sessions.{PlainSession}
use Rattle.pv_conversation.specs.declared.answers.Answer.{Answer}
use Rattle.pv_conversation.specs.declared.answers.ReplyText.{ReplyText}
use Rattle.pv_conversation.specs.declared.answers.ReplyText.TheVariants.{Made, Fixed, Shown}
use Rattle.pv_conversation.specs.Session.{RepliesBy, RepliesTo, done_of}

-- the bytes of the text of a reply
abbrev pub text_of_reply : ReplyText → List ℕ
text_of_reply (Made text) = text.items
text_of_reply (Fixed text) = text.now
text_of_reply (Shown head body) = head.items ++ (body ++ codes "\n")

abbrev pub IsAnswerOf : Reply → Answer → Type 0
IsAnswerOf told answer =
    (text_of_reply answer.text ≡ reply_bytes told) × (answer.done ≡ done_of told)

-- the reply to a line and the session after it, or the end, which leaves the session
abbrev pub IsTurn : PlainSession → List ℕ → PlainSession → Option Answer → Type 0
IsTurn before line after None = SpellsCommand line command.Quit × (after ≡ before)
IsTurn before line after (Some answer) =
    (told : Reply) × RepliesTo before line told after × IsAnswerOf told answer

-- the reply to a command
abbrev pub IsReplyBy : PlainSession → Command → PlainSession → Answer → Type 0
IsReplyBy before command after answer =
    (told : Reply) × RepliesBy before command told after × IsAnswerOf told answer

-- the reply to a command and the session after it, or the end, which leaves the session
abbrev pub IsFollowed : PlainSession → Command → PlainSession → Option Answer → Type 0
IsFollowed before told after None = (told ≡ command.Quit) × (after ≡ before)
IsFollowed before told after (Some answer) = IsReplyBy before told after answer
