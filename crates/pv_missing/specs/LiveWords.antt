-- Live words.
use Rattle.std.specs.Prelude.{List, [], length, ℕ, ◌∷◌, ◌≡◌}
use Rattle.std.specs.List.{AllByRecursion}
use Rattle.pv_model.specs.Plain.{PlainToken, named, other, text}
use Rattle.pv_dtd.specs.Plain.{PlainDtd}
use Rattle.pv_dtd.specs.Productive.{IsProductive}
use Rattle.pv_missing.specs.FilledWords.{IsPossible, IsPossibleRoot}

-- the second word is the first with `other` in place of each name that isn't productive
pub data IsLiveWord (g : PlainDtd) : List PlainToken → List PlainToken → Type 0 where
  live_none : IsLiveWord g [] []
  live_name : (y : ℕ) (w w' : List PlainToken) → IsProductive g y → IsLiveWord g w w' →
      IsLiveWord g (named y ∷ w) (named y ∷ w')
  live_unproductive : (y : ℕ) (w w' : List PlainToken) → (IsProductive g y → ⊥) →
      IsLiveWord g w w' → IsLiveWord g (named y ∷ w) (other ∷ w')
  live_text : (w w' : List PlainToken) → IsLiveWord g w w' → IsLiveWord g (text ∷ w) (text ∷ w')
  live_other : (w w' : List PlainToken) → IsLiveWord g w w' → IsLiveWord g (other ∷ w) (other ∷ w')

-- the token stands for an element of a productive name, or for none of the DTD
abbrev pub IsProductiveToken : PlainDtd → PlainToken → Type 0
IsProductiveToken g (named y) = IsProductive g y
IsProductiveToken g text = Unit {0}
IsProductiveToken g other = Unit {0}

-- each name in the word is productive
abbrev pub AreProductiveTokens : PlainDtd → List PlainToken → Type 0
AreProductiveTokens g w = AllByRecursion (IsProductiveToken g) w

-- the second word has productive names only, has as many tokens as the first, and is the first
-- where it is possible
pub record FollowsWord (g : PlainDtd) (w live : List PlainToken) : Type 0 where
  pub names : AreProductiveTokens g live
  pub same_length : length live ≡ length w
  pub itself : (x : ℕ) → IsPossible g x live → live ≡ w
  pub itself_at_root : (x : ℕ) → IsPossibleRoot g x live → live ≡ w
