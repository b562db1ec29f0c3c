-- Names of which some element is good.
use Rattle.std.specs.Prelude.{List, Some, suc, ℕ, ◌≡◌, ◌≤◌}
use Rattle.pv_dtd.specs.Plain.{PlainDtd, number_of}
use Rattle.pv_dtd.specs.Hedge.{AreGood, Fits, Hedge, done, elem, elements, leaf}

-- some element of this number is good
pub record IsProductive (g : PlainDtd) (y : ℕ) : Type 0 where
  pub kids : Hedge
  pub fits : Fits g y kids
  pub good : AreGood g kids

-- the least number of elements, itself included, of a good element of this number
pub record IsLeastSize (g : PlainDtd) (y n : ℕ) : Type 0 where
  pub kids : Hedge
  pub fits : Fits g y kids
  pub good : AreGood g kids
  pub is_size : n ≡ suc (elements kids)
  pub least : (k : Hedge) → Fits g y k → AreGood g k → n ≤ suc (elements k)

-- the DTD has the name, and it is productive
pub record IsProductiveName (g : PlainDtd) (x : List ℕ) : Type 0 where
  pub number : ℕ
  pub is_number : number_of g x ≡ Some number
  pub productive : IsProductive g number

-- each element that stands directly in the hedge has a productive name
abbrev pub AreProductive : PlainDtd → Hedge → Type 0
AreProductive g done = Unit {0}
AreProductive g (leaf l h) = AreProductive g h
AreProductive g (elem x t k h) = IsProductiveName g x × AreProductive g h
