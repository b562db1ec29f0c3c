-- What a list owes, and the theorem: a document is potentially valid exactly where no list is impossible, and the
-- numbers of elements that its lists miss add up to the number inserted.
use Rattle.std.proofs.Common.{List, Some, [], ℕ, ◌+◌, ◌↔◌, ◌∷◌, ◌≡◌}
use Rattle.pv_model.specs.Plain.{empty, named}
use Rattle.pv_dtd.specs.Plain.{PlainDtd, model_of, number_of}
use Rattle.pv_dtd.specs.Hedge.{Hedge, done, elem, leaf, word}
use Rattle.pv_missing.specs.Completions.{HasCompletion}
use Rattle.pv_missing.specs.Covers.{Covers, IsPossibleWith}
use Rattle.pv_dtd.specs.Proper.{IsProperDtd}
use Rattle.pv_dtd.specs.Productive.{IsProductive}

-- the list k of an element of number y isn't impossible, and n elements are missing in it
pub record IsLiveHedge (g : PlainDtd) (y n : ℕ) (k : Hedge) : Type 0 where
  pub productive : IsProductive g y
  pub no_kids : model_of g y ≡ Some empty → k ≡ done
  pub possible : IsPossibleWith g y n (word g k)

-- no list of an element in the hedge, at any depth, is impossible, and n elements are missing in them in all
abbrev pub AllLive : PlainDtd → ℕ → Hedge → Type 0
AllLive g n done = n ≡ 0
AllLive g n (leaf l h) = AllLive g n h
AllLive g n (elem x t k h) =
    (y : ℕ) × (a : ℕ) × (b : ℕ) × (c : ℕ) × (n ≡ a + (b + c)) × (number_of g x ≡ Some y) × IsLiveHedge g y a k × AllLive g b k × AllLive g c h

-- no list of the document with this root element is impossible, and n elements are missing in them in all
pub record NoneImpossible (g : PlainDtd) (root : List ℕ) (n : ℕ) (h : Hedge) : Type 0 where
  pub number : ℕ
  pub is_number : number_of g root ≡ Some number
  pub above : ℕ
  pub below : ℕ
  pub is_sum : n ≡ above + below
  pub document : Covers g above (named number ∷ []) (word g h)
  pub lists : AllLive g below h

abbrev pub HedgeLocality : Type 0
HedgeLocality = (g : PlainDtd) (root x t : List ℕ) (k : Hedge) (n : ℕ) → IsProperDtd g →
    HasCompletion g root n (elem x t k done) ↔ NoneImpossible g root n (elem x t k done)
