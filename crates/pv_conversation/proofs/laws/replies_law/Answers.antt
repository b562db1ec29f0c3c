use Rattle.pv_conversation.proofs.OneReplies.{AnswersOnce, one_reply, one_replies}
use Rattle.pv_conversation.proofs.Replies.{joins_replies, ends_at_quit}
use Rattle.pv_conversation.proofs.laws.replies_law.Goals as goal

pub returns : goal.returns
returns c =
    let once : AnswersOnce =
    record {
      commands = c.one_command_law.ensures.one;
      steps = c.one_answer_law.ensures;
      offers = record {
        offers = c.one_offer_law.ensures;
        grounds = c.one_ground_law.ensures;
        asked = c.no_ground_law.ensures;
      };
    } in
    record { reply = one_reply once; one = one_replies once; joined = joins_replies; ended = ends_at_quit }
