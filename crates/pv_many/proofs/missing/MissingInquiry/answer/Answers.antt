use Rattle.pv_many.proofs.missing.MissingInquiry.answer.Goals as goal

pub invariant_of-self : goal.invariant_of-self
invariant_of-self g c = rw c.need_of_text.ensures.same c.need_of_text.ensures.remembers

pub returns-clause-takes : goal.returns-clause-takes
returns-clause-takes g c =
    rw (c.deref.ensures.value, c.self.view_is) at c.need_of_text.ensures.takes
