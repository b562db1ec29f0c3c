use Rattle.pv_conversation.proofs.KeptOffers.{offers_are_kept}
use Rattle.pv_conversation.proofs.laws.offers_law.Goals as goal

pub returns : goal.returns
returns c = offers_are_kept c.one_command_law.ensures.one c.offered_law.ensures c.tried_law.ensures
