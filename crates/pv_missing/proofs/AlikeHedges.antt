-- Hedges that differ in nothing that counts: white units, misc, and how often a text is cut.
use Rattle.std.proofs.Common.{List, Some, ℕ, ◌↔◌, ◌≡◌}
use Rattle.pv_model.specs.Plain.{empty}
use Rattle.pv_dtd.specs.Plain.{PlainDtd, model_of, number_of}
use Rattle.pv_dtd.specs.Hedge.{Hedge, Leaf, cdata, data_unit, done, elem, leaf, misc, white}
use Rattle.pv_missing.specs.Completions.{HasCompletion}
use Rattle.pv_dtd.specs.Proper.{IsProperDtd}

abbrev pub IsBlank : Leaf → Type 0
IsBlank (white b) = Unit {0}
IsBlank (data_unit b) = ⊥
IsBlank (cdata b) = ⊥
IsBlank (misc b) = Unit {0}

abbrev pub IsText : Leaf → Type 0
IsText (white b) = ⊥
IsText (data_unit b) = Unit {0}
IsText (cdata b) = Unit {0}
IsText (misc b) = ⊥

-- elements of this name are to be empty
abbrev pub IsEmptyName : PlainDtd → List ℕ → Type 0
IsEmptyName g x = (y : ℕ) × (number_of g x ≡ Some y) × (model_of g y ≡ Some empty)

-- The second is the first, but for other text in place of text, blanks left out where the owner isn't EMPTY, and adjacent texts merged.
pub data Alike (g : PlainDtd) : Hedge → Hedge → Type 0 where
  alike_done : Alike g done done
  alike_leaf : (l : Leaf) (h h2 : Hedge) → Alike g h h2 → Alike g (leaf l h) (leaf l h2)
  alike_text : (l m : Leaf) (h h2 : Hedge) → IsText l → IsText m → Alike g h h2 → Alike g (leaf l h) (leaf m h2)
  alike_elem : (x t : List ℕ) (k k2 h h2 : Hedge) → (IsEmptyName g x → (k ≡ done) ↔ (k2 ≡ done)) → Alike g k k2 → Alike g h h2 → Alike g (elem x t k h) (elem x t k2 h2)
  alike_white : (l m : Leaf) (h h2 : Hedge) → IsBlank l → IsBlank m → Alike g h h2 → Alike g (leaf l h) (leaf m h2)
  alike_blank : (l : Leaf) (h h2 : Hedge) → IsBlank l → Alike g h h2 → Alike g (leaf l h) h2
  alike_merge : (l m : Leaf) (h h2 : Hedge) → IsText l → IsText m → Alike g h (leaf m h2) → Alike g (leaf l h) (leaf m h2)

-- the number of elements that can be inserted to make it valid doesn't change
abbrev pub Unchanged : Type 0
Unchanged = (g : PlainDtd) (root x t : List ℕ) (k k2 : Hedge) (n : ℕ) → IsProperDtd g → (IsEmptyName g x → (k ≡ done) ↔ (k2 ≡ done)) → Alike g k k2 →
    HasCompletion g root n (elem x t k done) ↔ HasCompletion g root n (elem x t k2 done)
