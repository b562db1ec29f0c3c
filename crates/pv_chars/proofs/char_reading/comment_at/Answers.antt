use Rattle.std.proofs.Common.{codes}
use Rattle.pv_chars.specs.Markup.{IsComment}
use Rattle.pv_chars.proofs.MarkupLemmas.{one_comment}
use Rattle.pv_chars.specs.CharReading.{comment_at}
use Rattle.pv_chars.proofs.OneFront.{answer_is_read}
use Rattle.pv_chars.proofs.CharFacts.{tells_comment, comment_opens, item_shorter}
use Rattle.pv_chars.proofs.char_reading.comment_at.Goals as goal

pub returns-clause-read : goal.returns-clause-read
returns-clause-read c = answer_is_read IsComment comment_at tells_comment one_comment (λ r. r.now) c.args.bytes.now _ c.after_comment.ensures

pub returns-clause-within : goal.returns-clause-within
returns-clause-within c = item_shorter IsComment 60 (codes "!--") comment_opens (λ r. r.now) c.args.bytes.now _ c.after_comment.ensures
