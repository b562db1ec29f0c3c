-- The names that may be put at a place of a document.
use Rattle.std.specs.Prelude.{Bool, IfOk, IsTrue, List, Result, [], false, take, true, ℕ, ◌++◌}
use Rattle.std.specs.Prelude.{◌∷◌, ◌≡◌}
use Rattle.pv_cache.specs.AcceptedEdits.{IsAccepted, IsWithinLimits}
use Rattle.pv_cache.specs.Moves.{HasGround}
use Rattle.pv_cache.specs.Stamps.{StampedDoc}
use Rattle.pv_chars.specs.declared.memory.NoMemory.{NoMemory as WantOfMemory}
use Rattle.pv_dtd.specs.Plain.{PlainDtd, declared}
use Rattle.pv_edit.specs.ChangedLists.{changed_lists, makes}
use Rattle.pv_edit.specs.GivenNames.{is_new_name}
use Rattle.pv_edit.specs.Reasons.{edit_outcome, gives}
use Rattle.pv_edit.specs.declared.answers.EditAnswer.{EditAnswer}
use Rattle.pv_edit.specs.declared.answers.EditAnswer.TheVariants as answer
use Rattle.pv_edit.specs.declared.asks.Ask.{Ask}
use Rattle.pv_edit.specs.declared.asks.Ask.TheVariants.{Rename, Wrap}
use Rattle.pv_edit.specs.declared.edits.Edit.{Edit}
use Rattle.pv_edit.specs.declared.edits.Edit.TheVariants as edit_of
use Rattle.pv_offer.specs.declared.errors.OfferError.{OfferError}
use Rattle.pv_offer.specs.declared.errors.OfferError.TheVariants.{Limit, NoMemory, Shape}
use Rattle.pv_tree.specs.Plain.{PlainDoc}

-- the edit that is asked of, with this name
abbrev pub edit_with : Ask → List ℕ → Edit
edit_with (Wrap path from to) x = edit_of.Wrap path from to x
edit_with (Rename path) x = edit_of.Rename path x

-- a new element is asked of
abbrev pub IsWrap : Ask → Type 0
IsWrap (Wrap path from to) = Unit {0}
IsWrap (Rename path) = ⊥

-- the declared names of a DTD, in order of declaration
abbrev pub declared_names : PlainDtd → List (List ℕ)
declared_names g = take (declared g) g.names

-- A name may be put there: the edit with this name is accepted.
abbrev pub IsOffered : StampedDoc → Ask → List ℕ → Type 0
IsOffered s ask x =
    (edited : PlainDoc ℕ) × IsAccepted 0 s.dtd s.root s.doc (edit_with ask x) edited

-- Of the first names the second are those for which this holds, in the same order, and no others.
pub data Picks (P : List ℕ → Type 0) : List (List ℕ) → List (List ℕ) → Type 0 where
  ends : Picks P [] []
  takes : {x : List ℕ} {xs ys : List (List ℕ)} → P x → Picks P xs ys →
      Picks P (x ∷ xs) (x ∷ ys)
  leaves : {x : List ℕ} {xs ys : List (List ℕ)} → (P x → ⊥) → Picks P xs ys →
      Picks P (x ∷ xs) ys

-- The offered names: the declared ones, in order of declaration, that may be put there.
abbrev pub AreOffered : StampedDoc → Ask → List (List ℕ) → Type 0
AreOffered s ask names = Picks (IsOffered s ask) (declared_names s.dtd) names

-- With each Name the edit can be made, and the edited document is within the limits.
abbrev pub CanBeAsked : StampedDoc → Ask → Type 0
CanBeAsked s ask = (x : List ℕ) → IsTrue (is_new_name x) →
    (edited : PlainDoc ℕ) × (edit_outcome 0 s.doc (edit_with ask x) ≡ gives edited) ×
    IsWithinLimits s.dtd edited (changed_lists (makes (edit_with ask x)))

-- with each Name the edit is refused on this ground
abbrev pub IsRefusedBy : StampedDoc → Ask → EditAnswer → Type 0
IsRefusedBy s ask why = (x : List ℕ) → IsTrue (is_new_name x) →
    HasGround 0 s.dtd s.root s.doc (edit_with ask x) why

-- Why nothing is offered: with each Name the edit can't be made, for this reason; or a new element
-- is asked of, and with each Name the edited document is past a limit. Want of memory has no
-- ground.
abbrev pub HasOfferGround : StampedDoc → Ask → OfferError → Type 0
HasOfferGround s ask (Shape reason) = IsRefusedBy s ask (answer.Shape reason)
HasOfferGround s ask Limit = IsWrap ask × IsRefusedBy s ask answer.Limit
HasOfferGround s ask NoMemory = Unit {0}

-- it is told of a name whether it may be put there
abbrev pub TellsOffered : StampedDoc → Ask → List ℕ → Bool → Type 0
TellsOffered s ask x true = IsOffered s ask x
TellsOffered s ask x false = IsOffered s ask x → ⊥

-- it is told of a name whether it may be put there, unless there was too little memory
abbrev pub TellsOf : StampedDoc → Ask → List ℕ → Result Bool WantOfMemory → Type 0
TellsOf s ask x tried = IfOk tried (TellsOffered s ask x)

-- the names, with this one more where it is told to be offered
abbrev pub added : Bool → List ℕ → List (List ℕ) → List (List ℕ)
added true x names = names ++ x ∷ []
added false x names = names
