use Rattle.pv_conversation.proofs.turns.follow.Goals as goal

pub returns-in_ok-verdicts-in-Verdicts-clause-followed : goal.returns-in_ok-verdicts-in-Verdicts-clause-followed
returns-in_ok-verdicts-in-Verdicts-clause-followed g c = rw c.in-Verdicts.is (rw c.session-in-Verdicts.ensures.same at c.in_ok-verdicts-in-Verdicts.ensures)

pub returns-in_ok-need-in-Need-clause-followed : goal.returns-in_ok-need-in-Need-clause-followed
returns-in_ok-need-in-Need-clause-followed g c = rw c.in-Need.is c.in_ok-need-in-Need.ensures.replied

pub returns-in_ok-complete-in-Complete-clause-followed : goal.returns-in_ok-complete-in-Complete-clause-followed
returns-in_ok-complete-in-Complete-clause-followed g c =
    rw c.in-Complete.is c.in_ok-complete-in-Complete.ensures.replied

pub returns-in_ok-offer-in-Offer-clause-followed : goal.returns-in_ok-offer-in-Offer-clause-followed
returns-in_ok-offer-in-Offer-clause-followed g c =
    rw c.in-Offer.is c.in_ok-offer-in-Offer.ensures.replied
