-- What holds of offers. M is a type of marks.
use Rattle.std.specs.Prelude.{Contains, IsTrue, List, ℕ, ◌≡◌}
use Rattle.pv_cache.specs.AcceptedEdits.{IsHoldable, IsWithinLimits}
use Rattle.pv_cache.specs.Moves.{HasGround}
use Rattle.pv_cache.specs.Stamps.{StampedDoc}
use Rattle.pv_dtd.specs.Plain.{PlainDtd}
use Rattle.pv_edit.specs.ChangedLists.{changed_lists, makes}
use Rattle.pv_edit.specs.GivenNames.{is_new_name}
use Rattle.pv_edit.specs.Reasons.{edit_outcome, gives, refuses}
use Rattle.pv_edit.specs.declared.answers.EditAnswer.{EditAnswer}
use Rattle.pv_edit.specs.declared.answers.EditAnswer.TheVariants as answer_of
use Rattle.pv_edit.specs.declared.asks.Ask.{Ask}
use Rattle.pv_edit.specs.declared.asks.Ask.TheVariants.{Rename}
use Rattle.pv_edit.specs.declared.reasons.Reason.{Reason}
use Rattle.pv_offer.specs.Offers.{AreOffered, CanBeAsked, HasOfferGround, IsOffered, declared_names}
use Rattle.pv_offer.specs.Offers.{edit_with}
use Rattle.pv_offer.specs.declared.errors.OfferError.{OfferError}
use Rattle.pv_offer.specs.declared.errors.OfferError.TheVariants.{NoMemory}
use Rattle.pv_tree.specs.Plain.{PlainDoc}

-- Why an edit can't be made doesn't depend on which Name is given.
abbrev pub ReasonsDontTellNames : Type 0 → Type 0
ReasonsDontTellNames M = (blank : M) (doc : PlainDoc M) (ask : Ask) (x y : List ℕ)
    (reason : Reason) → IsTrue (is_new_name x) → IsTrue (is_new_name y) →
    edit_outcome blank doc (edit_with ask x) ≡ refuses reason →
    edit_outcome blank doc (edit_with ask y) ≡ refuses reason

-- Whether the edited document is within the limits doesn't depend on which name is given.
abbrev pub LimitsDontTellNames : Type 0 → Type 0
LimitsDontTellNames M = (blank : M) (g : PlainDtd) (doc edited other : PlainDoc M) (ask : Ask)
    (x y : List ℕ) → edit_outcome blank doc (edit_with ask x) ≡ gives edited →
    edit_outcome blank doc (edit_with ask y) ≡ gives other →
    IsWithinLimits g edited (changed_lists (makes (edit_with ask x))) →
    IsWithinLimits g other (changed_lists (makes (edit_with ask y)))

-- A document that can be held is within the limits after each rename too.
abbrev pub RenamesAreWithin : Type 0 → Type 0
RenamesAreWithin M = (blank : M) (g : PlainDtd) (doc edited : PlainDoc M) (path : List ℕ)
    (x : List ℕ) → IsHoldable g doc →
    edit_outcome blank doc (edit_with (Rename path) x) ≡ gives edited →
    IsWithinLimits g edited (changed_lists (makes (edit_with (Rename path) x)))

-- There is one list of offered names.
abbrev pub HasOneOffer : Type 0
HasOneOffer = (s : StampedDoc) (ask : Ask) (names others : List (List ℕ)) →
    AreOffered s ask names → AreOffered s ask others → names ≡ others

-- Where names may be asked of, there is no ground to offer nothing but want of memory.
abbrev pub AskedHasNoGround : Type 0
AskedHasNoGround = (s : StampedDoc) (ask : Ask) (error : OfferError) → CanBeAsked s ask →
    HasOfferGround s ask error → error ≡ NoMemory

-- There is one ground on which nothing is offered; want of memory aside.
abbrev pub HasOneOfferGround : Type 0
HasOneOfferGround = (s : StampedDoc) (ask : Ask) (error other : OfferError) →
    HasOfferGround s ask error → HasOfferGround s ask other → (error ≡ NoMemory → ⊥) →
    (other ≡ NoMemory → ⊥) → error ≡ other

-- Each offered name may be put there, and a declared name that isn't among them may not.
abbrev pub OffersExactly : Type 0
OffersExactly = (s : StampedDoc) (ask : Ask) (names : List (List ℕ)) (x : List ℕ) →
    AreOffered s ask names →
    (Contains names x → IsOffered s ask x) ×
    (Contains (declared_names s.dtd) x → (Contains names x → ⊥) → IsOffered s ask x → ⊥)

-- Where names may be asked of, the edit with an offered name has no ground to be refused on, and
-- that with another Name has no ground but Impossible lists; want of memory aside.
abbrev pub TriedAsOffered : Type 0
TriedAsOffered = (s : StampedDoc) (ask : Ask) (x : List ℕ) (answer : EditAnswer) →
    CanBeAsked s ask → IsTrue (is_new_name x) →
    HasGround 0 s.dtd s.root s.doc (edit_with ask x) answer → (answer ≡ answer_of.NoMemory → ⊥) →
    (IsOffered s ask x → ⊥) × ((path : List ℕ) × (answer ≡ answer_of.Impossible path))
