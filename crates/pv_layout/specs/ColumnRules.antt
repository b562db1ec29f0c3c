-- The rules of columns: from what each may be put together over a span of a word, and at what cost.
use Rattle.std.specs.Prelude.{List, Some, [], false, length, slice_get, suc, true, ℕ, ◌<◌}
use Rattle.std.specs.Prelude.{◌≡◌, ◌≤◌, ◌⊎◌, ◌∷◌}
use Rattle.pv_model.specs.Plain.{PlainToken, named, text}
use Rattle.pv_rules.specs.Rules.{IsSpan}
use Rattle.pv_layout.specs.Forms.{PlainForm, form_at, of_element, of_none, of_nothing, of_one, of_opt}
use Rattle.pv_layout.specs.Forms.{of_plus, of_star, of_two}

-- a column over the tokens from one number up to another, that one left out
pub record Cell : Type 0 where
  pub column : ℕ
  pub from : ℕ
  pub to : ℕ

-- a column over the tokens from one number up to another
abbrev pub cell : ℕ → ℕ → ℕ → Cell
cell c i j = record { column = c; from = i; to = j }

-- the cell is among these
abbrev pub IsRightSide : Cell → List Cell → Type 0
IsRightSide x [] = ⊥
IsRightSide x (y ∷ ys) = (x ≡ y) ⊎ IsRightSide x ys

-- the column is among these
abbrev pub IsOneOf : ℕ → List ℕ → Type 0
IsOneOf d ds = (k : ℕ) × (slice_get ds k ≡ Some d)

module _ (w : List PlainToken) (c i j n : ℕ) (xs : List Cell) where
  -- nothing on the right
  abbrev pub ToNone : Type 0
  ToNone = (i ≡ j) × (j ≤ length w) × (n ≡ 0) × (xs ≡ [])

  -- one column over the same span
  abbrev pub ToOne : ℕ → Type 0
  ToOne d = IsSpan w i j × (n ≡ 0) × (xs ≡ cell d i j ∷ [])

  -- a column up to k, and one from there
  abbrev pub ToTwo : ℕ → ℕ → ℕ → Type 0
  ToTwo d e k = (i ≤ k) × (k ≤ j) × (j ≤ length w) × (n ≡ 0) × (xs ≡ cell d i k ∷ cell e k j ∷ [])

  -- a text, and then the column itself
  abbrev pub ToText : Type 0
  ToText = (i < j) × (j ≤ length w) × (slice_get w i ≡ Some text) × (n ≡ 0) ×
      (xs ≡ cell c (suc i) j ∷ [])

  -- the cost and the right sides of a rule, by what stands in the column
  abbrev pub FormRule : PlainForm → Type 0
  FormRule of_none = ⊥
  FormRule (of_element x d) =
      ((slice_get w i ≡ Some (named x)) × (j ≡ suc i) × (n ≡ 0) × (xs ≡ [])) ⊎
      (IsSpan w i j × (n ≡ 1) × (xs ≡ cell d i j ∷ []))
  FormRule of_nothing = ToNone
  FormRule (of_one ds) = (d : ℕ) × IsOneOf d ds × ToOne d
  FormRule (of_opt d) = ToNone ⊎ ToOne d
  FormRule (of_star d false) = ToNone ⊎ ((k : ℕ) × (i < k) × ToTwo d c k)
  FormRule (of_star d true) = ToNone ⊎ (ToText ⊎ ((k : ℕ) × (i < k) × ToTwo d c k))
  FormRule (of_plus d) = ToOne d ⊎ ((k : ℕ) × (i < k) × (k < j) × ToTwo d c k)
  FormRule (of_two d e) = (k : ℕ) × ToTwo d e k

-- the left side, its cost, and the right sides
abbrev pub ColumnRule : List PlainForm → List PlainToken → Cell → ℕ → List Cell → Type 0
ColumnRule forms w x n xs = FormRule w x.column x.from x.to n xs (form_at forms x.column)
