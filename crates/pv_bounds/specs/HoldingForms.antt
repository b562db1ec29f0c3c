-- What is tested of fronts, by what stands in a column: that none of its rules leads to less than
-- they tell. E tells what each column costs over no tokens, and L what a column costs over the
-- tokens from one place up to another, or farther.
use Rattle.std.specs.Prelude.{List, Some, length, slice_get, suc, true, ℕ, ◌+◌, ◌<◌, ◌≡◌, ◌≤◌}
use Rattle.pv_model.specs.Plain.{PlainToken, named, text}
use Rattle.pv_layout.specs.ColumnRules.{IsOneOf}
use Rattle.pv_layout.specs.Forms.{PlainForm, of_element, of_none, of_nothing, of_one, of_opt, of_plus}
use Rattle.pv_layout.specs.Forms.{of_star, of_two}

-- column c, over no tokens
abbrev pub EmptyHolds : (ℕ → ℕ) → ℕ → PlainForm → Type 0
EmptyHolds E c of_none = Unit {0}
EmptyHolds E c (of_element x d) = E c ≤ 1 + E d
EmptyHolds E c of_nothing = E c ≡ 0
EmptyHolds E c (of_one ds) = (d : ℕ) → IsOneOf d ds → E c ≤ E d
EmptyHolds E c (of_opt d) = E c ≡ 0
EmptyHolds E c (of_star d texts) = E c ≡ 0
EmptyHolds E c (of_plus d) = E c ≤ E d
EmptyHolds E c (of_two d e) = E c ≤ E d + E e

-- column c, over the tokens from place i
module _ (w : List PlainToken) (E : ℕ → ℕ) (L : ℕ → ℕ → ℕ → ℕ) (c i : ℕ) where
  -- it costs no more than column d, and so much
  abbrev pub CostsNoMore : ℕ → ℕ → Type 0
  CostsNoMore extra d = (j : ℕ) → L c i j ≤ extra + L d i j

  -- it costs no more than column d up to a place, and column e from there
  abbrev pub CutsHold : ℕ → ℕ → Type 0
  CutsHold d e = (k j : ℕ) → i < k → k < length w → L c i j ≤ L d i k + L e k j

  -- it costs no more than itself after a text
  abbrev pub TextsHold : Type 0
  TextsHold = slice_get w i ≡ Some text →
      (L c i (suc i) ≤ E c) × ((j : ℕ) → L c i j ≤ L c (suc i) j)

  abbrev pub ColumnHolds : PlainForm → Type 0
  ColumnHolds of_none = Unit {0}
  ColumnHolds (of_element x d) = (slice_get w i ≡ Some (named x) → L c i (suc i) ≡ 0) ×
      CostsNoMore 1 d
  ColumnHolds of_nothing = Unit {0}
  ColumnHolds (of_one ds) = (d : ℕ) → IsOneOf d ds → CostsNoMore 0 d
  ColumnHolds (of_opt d) = CostsNoMore 0 d
  ColumnHolds (of_star d texts) = (texts ≡ true → TextsHold) × CostsNoMore (E c) d
  ColumnHolds (of_plus d) = CostsNoMore 0 d
  ColumnHolds (of_two d e) = CostsNoMore (E e) d × CostsNoMore (E d) e

  -- what stands in the column leads to no less where a span is cut
  abbrev pub FormCutsHold : PlainForm → Type 0
  FormCutsHold of_none = Unit {0}
  FormCutsHold (of_element x d) = Unit {0}
  FormCutsHold of_nothing = Unit {0}
  FormCutsHold (of_one ds) = Unit {0}
  FormCutsHold (of_opt d) = Unit {0}
  FormCutsHold (of_star d texts) = CutsHold d c
  FormCutsHold (of_plus d) = CutsHold d c
  FormCutsHold (of_two d e) = CutsHold d e
