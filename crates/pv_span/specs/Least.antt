-- The least value that the rules give a cell, where t tells the values of cells.
use Rattle.std.specs.Prelude.{Bool, List, Some, slice_get, suc, true, ℕ, ◌+◌, ◌<◌, ◌≡◌, ◌≤◌}
use Rattle.pv_model.specs.Plain.{PlainToken, text}
use Rattle.pv_rules.specs.Derivations.{sum_of}
use Rattle.pv_productive.specs.Tables.{no_size}
use Rattle.pv_layout.specs.ColumnRules.{Cell, ColumnRule, IsRightSide, IsOneOf, cell}
use Rattle.pv_layout.specs.Forms.{PlainForm}

-- k is the sum of cost and right sides of a rule of a cell, where it is less than no derivation's
abbrev pub IsOfRule : List PlainForm → List PlainToken → (Cell → ℕ) → Cell → ℕ → Type 0
IsOfRule f w t x k = k < no_size → (c : ℕ) × (xs : List Cell) × ColumnRule f w x c xs ×
    (k ≡ c + sum_of t xs)

-- besides, k is no more than that of a rule with a right side over the whole span whose value isn't
-- less than v
pub record IsSumFrom (f : List PlainForm) (w : List PlainToken) (t : Cell → ℕ) (x : Cell)
    (v k : ℕ) : Type 0 where
  pub below : (c : ℕ) (xs : List Cell) (d : ℕ) → ColumnRule f w x c xs →
      IsRightSide (cell d x.from x.to) xs → v ≤ t (cell d x.from x.to) → k ≤ c + sum_of t xs
  pub attained : IsOfRule f w t x k

-- k is the sum of cost and right sides of a rule of a cell, where it is less than no derivation's,
-- and no more than that of a rule with a right side over the whole span
pub record IsSumAt (f : List PlainForm) (w : List PlainToken) (t : Cell → ℕ) (x : Cell) (k : ℕ) :
    Type 0 where
  pub below : (c : ℕ) (xs : List Cell) (d : ℕ) → ColumnRule f w x c xs →
      IsRightSide (cell d x.from x.to) xs → k ≤ c + sum_of t xs
  pub attained : k < no_size → (c : ℕ) × (xs : List Cell) × ColumnRule f w x c xs ×
      (k ≡ c + sum_of t xs)

-- k is the least sum of cost and right sides, over the rules of a cell
pub record IsLeastAt (f : List PlainForm) (w : List PlainToken) (t : Cell → ℕ) (x : Cell) (k : ℕ) :
    Type 0 where
  pub below : (c : ℕ) (xs : List Cell) → ColumnRule f w x c xs → k ≤ c + sum_of t xs
  pub attained : k < no_size → (c : ℕ) × (xs : List Cell) × ColumnRule f w x c xs ×
      (k ≡ c + sum_of t xs)

-- k is the least of two values added, where a span is cut at a place from low up to high, high left
-- out
pub record IsLeastCut (t : Cell → ℕ) (one two i j low high k : ℕ) : Type 0 where
  pub below : (m : ℕ) → low ≤ m → m < high → k ≤ t (cell one i m) + t (cell two m j)
  pub attained : k < no_size → (m : ℕ) × (low ≤ m) × (m < high) ×
      (k ≡ t (cell one i m) + t (cell two m j))

-- k is the least value of these columns over a span
pub record IsLeastMember (t : Cell → ℕ) (ds : List ℕ) (i j k : ℕ) : Type 0 where
  pub below : (d : ℕ) → IsOneOf d ds → k ≤ t (cell d i j)
  pub attained : k < no_size → (d : ℕ) × IsOneOf d ds × (k ≡ t (cell d i j))

-- s is the value of a column after a text, where texts may stand there
pub record IsTextValue (w : List PlainToken) (t : Cell → ℕ) (c : ℕ) (texts : Bool) (i j s : ℕ) :
    Type 0 where
  pub below : texts ≡ true → slice_get w i ≡ Some text → s ≤ t (cell c (suc i) j)
  pub attained : s < no_size → (texts ≡ true) × (slice_get w i ≡ Some text) ×
      (s ≡ t (cell c (suc i) j))
