-- Insertion at one level, and level by level.
use Rattle.std.specs.Prelude.{List, Some, [], suc, ℕ, ◌+◌, ◌∷◌, ◌≡◌}
use Rattle.pv_model.specs.Plain.{PlainModel, empty, named}
use Rattle.pv_model.specs.Models.{Allows}
use Rattle.pv_dtd.specs.Plain.{PlainDtd, declared, number_of}
use Rattle.pv_dtd.specs.Hedge.{AreGood, Fits, Hedge, Leaf, done, elem, elements, leaf, word}
use Rattle.pv_missing.specs.Extensions.{Extends, join}

-- The second hedge is the first with n elements inserted. Each that is inserted at this level is
-- declared, has no attributes, and has content that fits it. `Kept a x t k k'` says that an element
-- x with attributes t that was there may have k' in the place of its content k, by a elements
-- inserted inside it.
pub data Inserts (g : PlainDtd) (Kept : ℕ → List ℕ → List ℕ → Hedge → Hedge → Type 0)
    : ℕ → Hedge → Hedge → Type 0 where
  insert_done : (n : ℕ) → n ≡ 0 → Inserts g Kept n done done
  insert_leaf : (n : ℕ) (l : Leaf) (h h' : Hedge) → Inserts g Kept n h h' →
      Inserts g Kept n (leaf l h) (leaf l h')
  insert_kept : (n a b : ℕ) (x t : List ℕ) (k k' h h' : Hedge) → n ≡ a + b → Kept a x t k k' →
      Inserts g Kept b h h' → Inserts g Kept n (elem x t k h) (elem x t k' h')
  insert_new : (n a b : ℕ) (x : List ℕ) (y : ℕ) (h h1 h2 k' h' : Hedge) → n ≡ suc (a + b) →
      h ≡ join h1 h2 → number_of g x ≡ Some y → Fits g y k' →
      Inserts g Kept a h1 k' → Inserts g Kept b h2 h' →
      Inserts g Kept n h (elem x [] k' h')

-- nothing is inserted inside an element that was there
abbrev pub Stays : ℕ → List ℕ → List ℕ → Hedge → Hedge → Type 0
Stays a x t k k' = (a ≡ 0) × (k' ≡ k)

abbrev pub InsertsHere : PlainDtd → ℕ → Hedge → Hedge → Type 0
InsertsHere g n h h' = Inserts g Stays n h h'

-- n elements inserted at this level make the hedge fit an element of this model
pub record CanFit (g : PlainDtd) (m : PlainModel) (n : ℕ) (h : Hedge) : Type 0 where
  pub hedge : Hedge
  pub inserts : InsertsHere g n h hedge
  pub no_kids : m ≡ empty → hedge ≡ done
  pub allowed : Allows (declared g) m (word g hedge)

-- n elements inserted at this level make the hedge one element of this number, as far as its word
-- tells
pub record CanFitRoot (g : PlainDtd) (y n : ℕ) (h : Hedge) : Type 0 where
  pub hedge : Hedge
  pub inserts : InsertsHere g n h hedge
  pub is_root : word g hedge ≡ named y ∷ []

-- the second hedge is the first with n elements inserted, and all its elements are good
pub record IsGoodExtension (g : PlainDtd) (n : ℕ) (h h' : Hedge) : Type 0 where
  pub extends : Extends h h'
  pub good : AreGood g h'
  pub count : elements h' ≡ n + elements h

-- an element x is good with k' in the place of its content k, by n elements inserted at all levels
-- of k
pub record IsCompleted (g : PlainDtd) (n : ℕ) (x t : List ℕ) (k k' : Hedge) : Type 0 where
  pub y : ℕ
  pub is_number : number_of g x ≡ Some y
  pub fits : Fits g y k'
  pub inside : IsGoodExtension g n k k'
