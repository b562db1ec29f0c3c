use Rattle.pv_complete.proofs.missing.known.KnownWeights.keep.Goals as goal

pub returns-then-not-lead : goal.returns-then-not-lead
returns-then-not-lead c = λ g all one. rw c.lead.ensures (c.forget_if_full.ensures g all)

pub returns-then-not-add : goal.returns-then-not-add
returns-then-not-add c = λ g all one. c.add.ensures g
    (rw c.lead.ensures (c.forget_if_full.ensures g all)) one

pub returns : goal.returns
returns c = λ g all one. rw c.count.ensures
    (c.add.ensures g (rw c.lead.ensures (c.forget_if_full.ensures g all)) one)
