-- What `offer` replies in a session.
use Rattle.std.specs.Prelude.{◌≡◌, ℕ, List, Option, Some, None}
use Rattle.pv_edit.specs.declared.asks.Ask.{Ask}
use Rattle.pv_offer.specs.Offers.{AreOffered, CanBeAsked, HasOfferGround}
use Rattle.pv_offer.specs.declared.errors.OfferError.{OfferError}
use Rattle.pv_offer.specs.declared.errors.OfferError.TheVariants.{Limit, NoMemory, Shape}
use Rattle.pv_script.specs.declared.replies.Reply.{Reply}
use Rattle.pv_script.specs.declared.replies.Reply.TheVariants as reply
use Rattle.pv_session.specs.Sessions.{PlainSession, stamped_document}

-- the reply where nothing is offered on a ground; want of memory is none
abbrev pub offer_refused : OfferError → Option Reply
offer_refused (Shape reason) = Some (reply.Shape reason)
offer_refused Limit = Some reply.Limit
offer_refused NoMemory = None

-- The names that may be put there, in the document as it is now; or why no edit with any name can
-- be made there, or would be within the limits.
pub data TellsOffer (s : PlainSession) (ask : Ask) (told : Reply) : Type 0 where
  is_offered : (names : List (List ℕ)) → CanBeAsked (stamped_document s) ask →
      AreOffered (stamped_document s) ask names → told ≡ reply.Offer names → TellsOffer s ask told
  is_not_offered : (why : OfferError) → HasOfferGround (stamped_document s) ask why →
      offer_refused why ≡ Some told → TellsOffer s ask told
