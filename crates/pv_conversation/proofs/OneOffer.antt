-- A session has one reply to `offer`.
use Rattle.std.proofs.Common.{◌≡◌, ◌∙◌, Some, ap, sym}
use Rattle.pv_edit.specs.declared.asks.Ask.{Ask}
use Rattle.pv_offer.specs.Laws.{AskedHasNoGround, HasOneOffer, HasOneOfferGround}
use Rattle.pv_offer.specs.declared.errors.OfferError.{OfferError}
use Rattle.pv_offer.specs.declared.errors.OfferError.TheVariants.{NoMemory}
use Rattle.pv_script.specs.declared.replies.Reply.{Reply}
use Rattle.pv_script.specs.declared.replies.Reply.TheVariants as reply
use Rattle.pv_session.specs.Sessions.{PlainSession, stamped_document}
use Rattle.pv_conversation.specs.Offers.{TellsOffer, is_not_offered, is_offered, offer_refused}

-- there is one list of offered names, or one ground to offer none
pub record OffersOnce : Type 0 where
  pub offers : HasOneOffer
  pub grounds : HasOneOfferGround
  pub asked : AskedHasNoGround

-- a ground that has a reply isn't want of memory
has_reply : (why : OfferError) (told : Reply) → offer_refused why ≡ Some told → why ≡ NoMemory → ⊥
has_reply why told is none = let never = sym (ap offer_refused none) ∙ is in cc

same_reply : (told also : Reply) → Some told ≡ Some also → told ≡ also
same_reply told also is = cc

pub one_told_offer : OffersOnce → (s : PlainSession) (ask : Ask) (told also : Reply) → TellsOffer s ask told → TellsOffer s ask also → told ≡ also
one_told_offer once s ask told also (is_offered names can are is) (is_offered others may offered at) = is ∙ ap reply.Offer (once.offers (stamped_document s) ask names others are offered) ∙ sym at
one_told_offer once s ask told also (is_offered names can are is) (is_not_offered why ground at) = absurd (has_reply why also at (once.asked (stamped_document s) ask why can ground))
one_told_offer once s ask told also (is_not_offered why ground is) (is_offered names can are at) = absurd (has_reply why told is (once.asked (stamped_document s) ask why can ground))
one_told_offer once s ask told also (is_not_offered why ground is) (is_not_offered other also_ground at) =
    let same = once.grounds (stamped_document s) ask why other ground also_ground (has_reply why told is) (has_reply other also at) in
    same_reply told also (sym is ∙ ap offer_refused same ∙ at)
