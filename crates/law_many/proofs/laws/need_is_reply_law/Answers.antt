use Rattle.law_many.proofs.NeedReplies.{need_replies}
use Rattle.law_many.proofs.laws.need_is_reply_law.Goals as goal

pub returns : goal.returns
returns c = need_replies
