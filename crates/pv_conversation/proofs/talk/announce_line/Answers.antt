use Rattle.pv_conversation.proofs.talk.announce_line.Goals as goal

pub returns : goal.returns
returns g c = λ old replies written. rw c.limit_line_text-end.ensures.front at (c.announce.ensures old replies written)
