-- The rules of columns are over spans of the word, and small.
use Rattle.std.specs.List.{AllByRecursion}
use Rattle.std.proofs.Common.{List, arith, false, inl, inr, length, true, ℕ, ◌≤◌}
use Rattle.std.proofs.lemmas.Option.{slice_get_within}
use Rattle.pv_model.specs.Plain.{PlainToken, named}
use Rattle.pv_rules.specs.Rules.{IsSpan}
use Rattle.pv_layout.specs.ColumnRules.{Cell, ColumnRule, FormRule, ToNone, ToOne, ToText, ToTwo, cell}
use Rattle.pv_layout.specs.Forms.{PlainForm, form_at, of_element, of_none, of_nothing, of_one, of_opt, of_plus, of_star, of_two}

module _ (w : List PlainToken) (c i j n : ℕ) (xs : List Cell) where
  -- the span of a rule, and of its right sides
  abbrev IsOver : Type 0
  IsOver = IsSpan w i j × AllByRecursion (λ (x : Cell). (i ≤ x.from) × (x.from ≤ x.to) × (x.to ≤ j)) xs

  abbrev IsSmall : Type 0
  IsSmall = (n ≤ 1) × (length xs ≤ 2)

  none_over : ToNone w c i j n xs → IsOver
  none_over (e, l, z, f) = rw f ((omega arith, l), tt)

  one_over : (d : ℕ) → ToOne w c i j n xs d → IsOver
  one_over d (s, z, f) = rw f (s, ((omega arith, s.0, omega arith), tt))

  two_over : (d e k : ℕ) → ToTwo w c i j n xs d e k → IsOver
  two_over d e k (a, b, l, z, f) = rw f ((omega arith, l), ((omega arith, a, b), ((a, b, omega arith), tt)))

  text_over : ToText w c i j n xs → IsOver
  text_over (a, l, g, z, f) = rw f ((omega arith, l), ((omega arith, omega arith, omega arith), tt))

  form_over : (f : PlainForm) → FormRule w c i j n xs f → IsOver
  form_over of_none r = absurd r
  form_over (of_element x d) (inl (g, e, z, f)) = let l = slice_get_within w i (named x) g in rw f ((omega arith, omega arith), tt)
  form_over (of_element x d) (inr (s, z, f)) = rw f (s, ((omega arith, s.0, omega arith), tt))
  form_over of_nothing r = none_over r
  form_over (of_one ds) (d, a, r) = one_over d r
  form_over (of_opt d) (inl r) = none_over r
  form_over (of_opt d) (inr r) = one_over d r
  form_over (of_star d false) (inl r) = none_over r
  form_over (of_star d false) (inr (k, l, r)) = two_over d c k r
  form_over (of_star d true) (inl r) = none_over r
  form_over (of_star d true) (inr (inl r)) = text_over r
  form_over (of_star d true) (inr (inr (k, l, r))) = two_over d c k r
  form_over (of_plus d) (inl r) = one_over d r
  form_over (of_plus d) (inr (k, l, h, r)) = two_over d c k r
  form_over (of_two d e) (k, r) = two_over d e k r

  none_small : ToNone w c i j n xs → IsSmall
  none_small (e, l, z, f) = rw f (omega arith, omega arith)

  one_small : (d : ℕ) → ToOne w c i j n xs d → IsSmall
  one_small d (s, z, f) = rw f (omega arith, omega arith)

  two_small : (d e k : ℕ) → ToTwo w c i j n xs d e k → IsSmall
  two_small d e k (a, b, l, z, f) = rw f (omega arith, omega arith)

  form_small : (f : PlainForm) → FormRule w c i j n xs f → IsSmall
  form_small of_none r = absurd r
  form_small (of_element x d) (inl (g, e, z, f)) = rw f (omega arith, omega arith)
  form_small (of_element x d) (inr (s, z, f)) = rw f (omega arith, omega arith)
  form_small of_nothing r = none_small r
  form_small (of_one ds) (d, a, r) = one_small d r
  form_small (of_opt d) (inl r) = none_small r
  form_small (of_opt d) (inr r) = one_small d r
  form_small (of_star d false) (inl r) = none_small r
  form_small (of_star d false) (inr (k, l, r)) = two_small d c k r
  form_small (of_star d true) (inl r) = none_small r
  form_small (of_star d true) (inr (inl (a, l, g, z, f))) = rw f (omega arith, omega arith)
  form_small (of_star d true) (inr (inr (k, l, r))) = two_small d c k r
  form_small (of_plus d) (inl r) = one_small d r
  form_small (of_plus d) (inr (k, l, h, r)) = two_small d c k r
  form_small (of_two d e) (k, r) = two_small d e k r

module _ (f : List PlainForm) (w : List PlainToken) (c i j n : ℕ) (xs : List Cell) (r : ColumnRule f w (cell c i j) n xs) where
  pub column_spans : IsSpan w i j × AllByRecursion (λ (x : Cell). (i ≤ x.from) × (x.from ≤ x.to) × (x.to ≤ j)) xs
  column_spans = form_over w c i j n xs (form_at f c) r

  pub small_columns : (n ≤ 1) × (length xs ≤ 2)
  small_columns = form_small w c i j n xs (form_at f c) r
