use Rattle.pv_long.proofs.known.KnownBounds.keep.Goals as goal

pub returns-then-not-add : goal.returns-then-not-add
returns-then-not-add c = λ g all one. c.add.ensures g (c.forget_if_full.ensures g all) one

pub returns : goal.returns
returns c = λ g all one. rw c.lead.ensures (c.add.ensures g (c.forget_if_full.ensures g all) one)
