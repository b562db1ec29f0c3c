use Rattle.pv_many.proofs.possibility.PossibilityInquiry.answer.Goals as goal

pub returns-clause-takes : goal.returns-clause-takes
returns-clause-takes g c = rw c.deref.ensures.value at c.check_of_text.ensures.takes
