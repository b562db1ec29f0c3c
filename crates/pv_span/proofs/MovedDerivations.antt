-- Rules and derivations over a span, moved to a span of the same tokens.
use Rattle.std.specs.Prelude.{min}
use Rattle.std.specs.List.{AllByRecursion}
use Rattle.std.proofs.Common.{List, Some, [], ap, arith, false, inl, inr, length, map, refl}
use Rattle.std.proofs.Common.{slice_get, suc, sym, true, ℕ, ◌+◌, ◌-◌, ◌<◌, ◌∙◌, ◌∷◌, ◌≡◌, ◌≤◌}
use Rattle.pv_model.specs.Plain.{PlainToken, named, text}
use Rattle.pv_rules.specs.Derivations.{DeriveAll, Derives, by_rule, heaviest, none_left, one_more}
use Rattle.pv_rules.specs.Derivations.{sum_of}
use Rattle.pv_rules.proofs.DerivationLaws.{HaveAll, passed}
use Rattle.pv_productive.proofs.CutSums.{cut_few}
use Rattle.pv_span.specs.Charts.{IsDone, IsSoundChart, PlainChart, span_number, value_of}
use Rattle.pv_layout.specs.ColumnRules.{Cell, ColumnRule, FormRule, ToNone, ToOne, ToText, ToTwo}
use Rattle.pv_layout.specs.ColumnRules.{cell}
use Rattle.pv_layout.specs.Forms.{PlainForm, form_at, of_element, of_none, of_nothing, of_one, of_opt}
use Rattle.pv_layout.specs.Forms.{of_plus, of_star, of_two}
use Rattle.pv_span.specs.Repeats.{AreSameFrom}
use Rattle.pv_layout.proofs.ColumnFacts.{column_spans, small_columns}
use Rattle.pv_span.proofs.SpanNumbers.{within}

-- the n tokens from p on are those from q on
module _ (f : List PlainForm) (w : List PlainToken) (p q n : ℕ) (room : q + n ≤ length w)
    (same : AreSameFrom w p q n) where
  abbrev pub moved : Cell → Cell
  moved x = cell x.column (q + (x.from - p)) (q + (x.to - p))

  module _ (c i j k : ℕ) (xs : List Cell) (first : p ≤ i) (last : j ≤ p + n) where
    token_moved : (v : PlainToken) → i < j → slice_get w i ≡ Some v →
        slice_get w (q + (i - p)) ≡ Some v
    token_moved v l e =
        let h = same (i - p) (omega arith) in
        let z : p + (i - p) ≡ i = omega arith in
        sym (rw z at h) ∙ e

    none_moved : ToNone w c i j k xs →
        ToNone w c (q + (i - p)) (q + (j - p)) k (map moved xs)
    none_moved (e, l, z, r) = (omega arith, omega arith, z, ap (map moved) r)

    one_moved : (d : ℕ) → ToOne w c i j k xs d →
        ToOne w c (q + (i - p)) (q + (j - p)) k (map moved xs) d
    one_moved d (s, z, r) = ((let l = s.0 in omega arith, omega arith), z, ap (map moved) r)

    two_moved : (d e m : ℕ) → ToTwo w c i j k xs d e m →
        ToTwo w c (q + (i - p)) (q + (j - p)) k (map moved xs) d e (q + (m - p))
    two_moved d e m (a, b, l, z, r) =
        (omega arith, omega arith, omega arith, z, ap (map moved) r)

    text_moved : ToText w c i j k xs →
        ToText w c (q + (i - p)) (q + (j - p)) k (map moved xs)
    text_moved (a, l, t, z, r) =
        let e : q + (suc i - p) ≡ suc (q + (i - p)) = omega arith in
        let s = ap (map moved) r in
        (omega arith, omega arith, token_moved text a t, z, rw e at s)

    form_moved : (g : PlainForm) → FormRule w c i j k xs g →
        FormRule w c (q + (i - p)) (q + (j - p)) k (map moved xs) g
    form_moved of_none r = absurd r
    form_moved (of_element x d) (inl (t, e, z, r)) =
        inl (token_moved (named x) (omega arith) t, omega arith, z, ap (map moved) r)
    form_moved (of_element x d) (inr (s, z, r)) =
        inr ((let l = s.0 in omega arith, omega arith), z, ap (map moved) r)
    form_moved of_nothing r = none_moved r
    form_moved (of_one ds) (d, o, r) = (d, o, one_moved d r)
    form_moved (of_opt d) (inl r) = inl (none_moved r)
    form_moved (of_opt d) (inr r) = inr (one_moved d r)
    form_moved (of_star d false) (inl r) = inl (none_moved r)
    form_moved (of_star d false) (inr (m, l, r)) =
        inr (q + (m - p), omega arith, two_moved d c m r)
    form_moved (of_star d true) (inl r) = inl (none_moved r)
    form_moved (of_star d true) (inr (inl r)) = inr (inl (text_moved r))
    form_moved (of_star d true) (inr (inr (m, l, r))) =
        inr (inr (q + (m - p), omega arith, two_moved d c m r))
    form_moved (of_plus d) (inl r) = inl (one_moved d r)
    form_moved (of_plus d) (inr (m, l, h, r)) =
        inr (q + (m - p), omega arith, omega arith, two_moved d c m r)
    form_moved (of_two d e) (m, r) = (q + (m - p), two_moved d e m r)

  rule_moved : (x : Cell) (k : ℕ) (xs : List Cell) → p ≤ x.from → x.to ≤ p + n →
      ColumnRule f w x k xs → ColumnRule f w (moved x) k (map moved xs)
  rule_moved x k xs a b r = form_moved x.column x.from x.to k xs a b (form_at f x.column) r

  -- the right sides of a rule are within the span of its left side
  abbrev AreWithin : Cell → List Cell → Type 0
  AreWithin y xs = AllByRecursion
      (λ (x : Cell). (y.from ≤ x.from) × (x.from ≤ x.to) × (x.to ≤ y.to)) xs

  rights : (y : Cell) (k : ℕ) (xs : List Cell) → ColumnRule f w y k xs → AreWithin y xs
  rights y k xs r = (column_spans f w y.column y.from y.to k xs r).1

  abbrev IsMoved : ℕ → Cell → Type 0
  IsMoved k x = p ≤ x.from → x.to ≤ p + n → Derives (ColumnRule f w) k (moved x)

  all_moved : (y : Cell) → p ≤ y.from → y.to ≤ p + n → (k : ℕ) (xs : List Cell) →
      AreWithin y xs → HaveAll IsMoved k xs → DeriveAll (ColumnRule f w) k (map moved xs)
  all_moved y a b k [] s h = none_left k h
  all_moved y a b k (x ∷ xs) s (l, m, e, h, hs) =
      let o = s.0.0 in
      let u = s.0.2 in
      one_more k l m (moved x) (map moved xs) e (h (omega arith) (omega arith))
      (all_moved y a b m xs s.1 hs)

  moved_step : (x : Cell) (c k : ℕ) (xs : List Cell) → ColumnRule f w x c xs →
      HaveAll IsMoved k xs → IsMoved (c + k) x
  moved_step x c k xs r h a b =
      by_rule (c + k) c k (moved x) (map moved xs) refl (rule_moved x c xs a b r)
      (all_moved x a b k xs (rights x c xs r) h)

  -- what is derived over the span is derived over the other one
  pub derives_moved : (k : ℕ) (x : Cell) → Derives (ColumnRule f w) k x → IsMoved k x
  derives_moved k x d = passed (ColumnRule f w) IsMoved moved_step k x d

  module _ (t : PlainChart) (sound : IsSoundChart f w t)
      (done : span_number t.tokens q (q + n) < length t.rows) where
    done_within : (a b : ℕ) → q ≤ a → a ≤ b → b ≤ q + n → IsDone w t a b
    done_within a b h l e =
        let z = sound.long in
        let s = within t.tokens q (q + n) a b h l e (omega arith) in
        ((l, omega arith), omega arith)

    abbrev IsValued : ℕ → Cell → Type 0
    IsValued k x = p ≤ x.from → x.to ≤ p + n → value_of t (moved x) ≤ min heaviest k

    abbrev sum_moved : List Cell → ℕ
    sum_moved xs = sum_of (value_of t) (map moved xs)

    module _ (y : Cell) (first : p ≤ y.from) (last : y.to ≤ p + n) where
      one_valued : (k : ℕ) (x : Cell) →
          (y.from ≤ x.from) × (x.from ≤ x.to) × (x.to ≤ y.to) → IsValued k x →
          value_of t (moved x) ≤ min heaviest k
      one_valued k x s h = let o = s.0 in let u = s.2 in h (omega arith) (omega arith)

      all_valued : (k : ℕ) (xs : List Cell) → AreWithin y xs → HaveAll IsValued k xs →
          sum_moved xs ≤ k
      all_valued k [] s h = omega arith
      all_valued k (x ∷ xs) s (l, m, e, h, hs) =
          let u = one_valued l x s.0 h in
          let v = all_valued m xs s.1 hs in
          omega arith

      few_valued : (k : ℕ) (xs : List Cell) → AreWithin y xs → HaveAll IsValued k xs →
          length xs ≤ 2 → sum_moved xs ≤ 2000002
      few_valued k [] s h l = omega arith
      few_valued k (x ∷ []) s (a, b, e, h, hs) l =
          let u = one_valued a x s.0 h in omega arith
      few_valued k (x ∷ z ∷ []) s (a, b, e, h, (c, d, g, i, hs)) l =
          let u = one_valued a x s.0 h in
          let v = one_valued c z s.1.0 i in
          omega arith
      few_valued k (x ∷ z ∷ v ∷ xs) s h l = absurd (omega arith)

    valued_step : (x : Cell) (c k : ℕ) (xs : List Cell) → ColumnRule f w x c xs →
        HaveAll IsValued k xs → IsValued (c + k) x
    valued_step x c k xs r h a b =
        let span = (column_spans f w x.column x.from x.to c xs r).0 in
        let low = span.0 in
        let d = done_within (q + (x.from - p)) (q + (x.to - p)) (omega arith) (omega arith)
        (omega arith) in
        let l = sound.settled x.column (q + (x.from - p)) (q + (x.to - p)) d c (map moved xs)
        (rule_moved x c xs a b r) in
        let s = small_columns f w x.column x.from x.to c xs r in
        let small = s.0 in
        let u = all_valued x a b k xs (rights x c xs r) h in
        let v = few_valued x a b k xs (rights x c xs r) h s.1 in
        let e = cut_few (c + sum_moved xs) (omega arith) in
        omega arith

    -- the values over the other span are no more than what is derived over this one weighs
    pub value_moved : (k : ℕ) (x : Cell) → Derives (ColumnRule f w) k x → IsValued k x
    value_moved k x d = passed (ColumnRule f w) IsValued valued_step k x d
