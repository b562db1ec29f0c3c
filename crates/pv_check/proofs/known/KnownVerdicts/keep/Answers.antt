use Rattle.pv_check.proofs.known.KnownVerdicts.keep.Goals as goal

pub returns-then-not-add : goal.returns-then-not-add
returns-then-not-add c = λ s g all one.
    c.add.ensures s g (c.forget_if_full.ensures s g all) (rw c.in-Ok.ensures.items one)

pub returns : goal.returns
returns c = λ s g all one. rw c.lead.ensures
    (c.add.ensures s g (c.forget_if_full.ensures s g all) (rw c.in-Ok.ensures.items one))
