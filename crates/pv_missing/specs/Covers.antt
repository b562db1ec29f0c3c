-- Words into which missing elements are put, with their number, and without depths.
use Rattle.std.specs.Prelude.{List, Some, [], suc, ℕ, ◌++◌, ◌+◌, ◌∷◌, ◌≡◌, ◌≤◌}
use Rattle.pv_model.specs.Plain.{PlainModel, PlainToken, named, text}
use Rattle.pv_model.specs.Models.{Allows}
use Rattle.pv_dtd.specs.Plain.{PlainDtd, declared, model_of}
use Rattle.pv_dtd.specs.Productive.{IsProductive}

-- the word w, with n missing elements put in, is cut into one piece for each token of u
pub data Covers (g : PlainDtd) : ℕ → List PlainToken → List PlainToken → Type 0 where
  cover_none : (n : ℕ) → n ≡ 0 → Covers g n [] []
  cover_text : (n : ℕ) (u w : List PlainToken) → Covers g n u w → Covers g n (text ∷ u) (text ∷ w)
  cover_kept : (n y : ℕ) (u w : List PlainToken) → IsProductive g y → Covers g n u w →
      Covers g n (named y ∷ u) (named y ∷ w)
  cover_new : (n a b y : ℕ) (m : PlainModel) (v u w1 w2 w : List PlainToken) → n ≡ suc (a + b) →
      w ≡ w1 ++ w2 → model_of g y ≡ Some m →
      Allows (declared g) m v → Covers g a v w1 → Covers g b u w2 → Covers g n (named y ∷ u) w

-- the word is possible for the content of an element of number x, with n missing elements
pub record IsPossibleWith (g : PlainDtd) (x n : ℕ) (w : List PlainToken) : Type 0 where
  pub model : PlainModel
  pub is_model : model_of g x ≡ Some model
  pub whole : List PlainToken
  pub allowed : Allows (declared g) model whole
  pub covers : Covers g n whole w

-- the word is possible for the document node, with n missing elements
abbrev pub IsPossibleRootWith : PlainDtd → ℕ → ℕ → List PlainToken → Type 0
IsPossibleRootWith g x n w = Covers g n (named x ∷ []) w

-- n is the least number of elements missing in empty content
abbrev pub IsLeastInNothing : PlainDtd → ℕ → ℕ → Type 0
IsLeastInNothing g x n = IsPossibleWith g x n [] × ((m : ℕ) → IsPossibleWith g x m [] → n ≤ m)
