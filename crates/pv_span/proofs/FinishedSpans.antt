-- Spans that are done, one after another, and the chart of all spans.
use Rattle.std.specs.Prelude.{min}
use Rattle.std.specs.List.{AllByRecursion}
use Rattle.std.proofs.Common.{List, [], arith, inl, inr, length, length-append, refl, suc, ℕ, ◌++◌, ◌+◌, ◌<◌, ◌-◌, ◌∙◌, ◌∷◌, ◌≡◌, ◌≤◌, ◌↔◌}
use Rattle.std.proofs.Math.ListN.{get_or-append, get_or-eq_default}
use Rattle.std.proofs.Math.Seq.{get_or-append_seam}
use Rattle.std.proofs.lemmas.Bool.{cases_lt}
use Rattle.std.proofs.lemmas.List.{get_or_default}
use Rattle.pv_model.specs.Plain.{PlainToken}
use Rattle.pv_rules.specs.Derivations.{Derives, IsClosed, IsClosedSet, IsWeight, heaviest, sum_of}
use Rattle.pv_rules.specs.Rules.{IsSpan}
use Rattle.pv_rules.proofs.DerivationLaws.{closed_below, held}
use Rattle.pv_productive.specs.Tables.{capped, no_size, size_at}
use Rattle.pv_productive.proofs.CutSums.{cut_few}
use Rattle.pv_span.specs.Charts.{AreSettled, HasValue, IsAttainedChart, IsDone, IsFilled, HasDone, IsSettledAt, IsSoundChart, PlainChart, row_of_span, span_number, spans_before, value_of}
use Rattle.pv_layout.specs.ColumnRules.{Cell, ColumnRule, cell}
use Rattle.pv_layout.specs.Forms.{PlainForm, form_at, of_none}
use Rattle.pv_layout.proofs.ColumnFacts.{column_spans, small_columns}
use Rattle.pv_span.proofs.SpanNumbers.{later_spans, within}
use Rattle.pv_span.proofs.LoweredRows.{at_hand, resound}

-- spans of one number are one span
one_span : (n i j a b : ℕ) → i ≤ j → j ≤ n → a ≤ b → b ≤ n → span_number n a b ≡ span_number n i j → (a ≡ i) × (b ≡ j)
one_span n i j a b p q r s e = elim (cases_lt a i) [
  | inl lt ↦ absurd (let h = later_spans (n - i) (n - a) (omega arith) in omega arith)
  | inr le ↦ elim (cases_lt i a) [
    | inl lt ↦ absurd (let h = later_spans (n - a) (n - i) (omega arith) in omega arith)
    | inr ge ↦ (let z : a ≡ i = omega arith in let f = rw z at e in (z, omega arith))
  ]
]

module _ (g : List PlainForm) (w : List PlainToken) (i j : ℕ) (t : PlainChart) (a : IsAttainedChart g w i j t) where
  -- where there is no column there is no rule
  pub all_settled : AreSettled g w i j (length g) t → (s : ℕ) → IsSettledAt g w t (cell s i j)
  all_settled p s = elim (cases_lt s (length g)) [
    | inl lt ↦ p s lt
    | inr ge ↦ λ c xs r. absurd (let e : form_at g s ≡ of_none = get_or-eq_default g of_none ge in rw e at r)
  ]

  -- the span at hand is put with those that are done
  module _ (settled : (s : ℕ) → IsSettledAt g w t (cell s i j)) (row : List ℕ) where
    same_row : (k : ℕ) → k < length (t.rows ++ (t.row ∷ [])) → row_of_span (record { tokens = t.tokens; rows = t.rows ++ (t.row ∷ []); row = row }) k ≡ row_of_span t k
    same_row k l = elim (cases_lt k (length t.rows)) [
      | inl lt ↦ get_or-append t.rows (t.row ∷ []) row k lt ∙ get_or_default t.rows k row t.row lt
      | inr ge ↦ (
          let m = simp length-append at l in
          let e : k ≡ length t.rows = omega arith in
          let u = get_or-append_seam t.rows t.row [] row in
          let v : row_of_span t (length t.rows) ≡ t.row = get_or-eq_default t.rows t.row (omega arith) in
          rw e (rw v u)
          )
    ]

    done_both : (s m n : ℕ) → IsDone w (record { tokens = t.tokens; rows = t.rows ++ (t.row ∷ []); row = row }) m n →
        HasValue g w (cell s m n) (value_of t (cell s m n)) × IsSettledAt g w t (cell s m n)
    done_both s m n (p, l) = elim (cases_lt (span_number t.tokens m n) (length t.rows)) [
      | inl lt ↦ (a.sound.attained s m n (p, lt), a.sound.settled s m n (p, lt))
      | inr ge ↦ (
          let l' = simp length-append at l in
          let q = a.next in let z = a.sound.long in
          let e = one_span t.tokens i j m n (a.span.0) (let y = a.span.1 in omega arith) p.0 (let y = p.1 in omega arith) (omega arith) in
          rw (e.0, e.1) ((let h = at_hand g w i j t a s in rw h (a.attained s)), settled s)
          )
    ]

    pub done_more : IsSoundChart g w (record { tokens = t.tokens; rows = t.rows ++ (t.row ∷ []); row = row })
    done_more = resound g w t (t.rows ++ (t.row ∷ [])) row a.sound.long same_row done_both

-- before any span is done
pub none_done : (g : List PlainForm) (w : List PlainToken) (row : List ℕ) → IsSoundChart g w (record { tokens = length w; rows = []; row = row })
none_done g w row = record { long = refl; attained = λ s i j d. absurd (let l = d.1 in omega arith); settled = λ s i j d. absurd (let l = d.1 in omega arith) }

-- a row of which nothing is known, for the next span
pub begun : (g : List PlainForm) (w : List PlainToken) (i j : ℕ) (t : PlainChart) → IsSoundChart g w t → IsSpan w i j → span_number t.tokens i j ≡ length t.rows →
    length t.row ≡ length g → ((s : ℕ) → size_at t.row s ≡ no_size) → IsAttainedChart g w i j t
begun g w i j t sound span next sized blank = record {
  sound = sound;
  span = span;
  next = next;
  is_row = sized;
  attained = λ s. let e = blank s in (omega arith, λ f. absurd (omega arith));
}

-- all spans are done
module _ (g : List PlainForm) (w : List PlainToken) (t : PlainChart) (sound : IsSoundChart g w t) (all : (i j : ℕ) → IsSpan w i j → span_number t.tokens i j < length t.rows) where
  lowers_nothing : (s i j c : ℕ) (xs : List Cell) → ColumnRule g w (cell s i j) c xs → value_of t (cell s i j) ≤ capped (c + sum_of (value_of t) xs)
  lowers_nothing s i j c xs r = let p = (column_spans g w s i j c xs r).0 in sound.settled s i j (p, all i j p) c xs r

  abbrev IsFew : Cell → Type 0
  IsFew x = value_of t x ≤ heaviest

  few_sum : (c : ℕ) (xs : List Cell) → c ≤ 1 → length xs ≤ 2 → AllByRecursion IsFew xs → c + sum_of (value_of t) xs < no_size
  few_sum c [] a l f = omega arith
  few_sum c (x ∷ []) a l f = let y = f.0 in omega arith
  few_sum c (x ∷ y ∷ []) a l f = let z = f.0 in let v = f.1.0 in omega arith
  few_sum c (x ∷ y ∷ z ∷ xs) a l f = absurd (omega arith)

  few_closed : IsClosedSet (ColumnRule g w) IsFew
  few_closed x c xs r f =
      let s = small_columns g w x.column x.from x.to c xs r in
      let l = lowers_nothing x.column x.from x.to c xs r in
      let e = cut_few (c + sum_of (value_of t) xs) (few_sum c xs s.0 s.1 f) in omega arith

  abbrev cut_value : Cell → ℕ
  cut_value x = min heaviest (value_of t x)

  cut_sum : (c : ℕ) (xs : List Cell) → min heaviest (c + sum_of cut_value xs) ≡ min heaviest (c + sum_of (value_of t) xs)
  cut_sum c [] = refl
  cut_sum c (x ∷ xs) = let e = cut_sum c xs in omega arith

  values_closed : IsClosed (ColumnRule g w) cut_value
  values_closed x c xs r =
      let l = lowers_nothing x.column x.from x.to c xs r in
      let e = cut_sum c xs in
      elim (cases_lt (c + sum_of (value_of t) xs) no_size) [
        | inl lt ↦ (let f = cut_few (c + sum_of (value_of t) xs) lt in omega arith)
        | inr ge ↦ omega arith
      ]

  -- what has a derivation has a value, which is no more than that weighs
  has_value : (n : ℕ) (x : Cell) → Derives (ColumnRule g w) n x → (value_of t x ≤ heaviest) × (value_of t x ≤ n)
  has_value n x d =
      let a = held (ColumnRule g w) IsFew few_closed n x d in
      let b = closed_below Cell (ColumnRule g w) cut_value values_closed n x d in (a, omega arith)

  pub is_weight : (s i j : ℕ) → IsSpan w i j → IsWeight (ColumnRule g w) (cell s i j) (min heaviest (value_of t (cell s i j)))
  is_weight s i j p = record {
    bounded = omega arith;
    least = λ n d. let h = (has_value n (cell s i j) d).1 in omega arith;
    reached = λ f.
        let h = (sound.attained s i j (p, all i j p)).1 (omega arith) in
        let z = h.2 in
        let e : h.0 ≡ min heaviest (value_of t (cell s i j)) = omega arith in rw e at h.1;
  }

  pub derives_something : (s i j : ℕ) → IsSpan w i j → (value_of t (cell s i j) < no_size) ↔ ((n : ℕ) × Derives (ColumnRule g w) n (cell s i j))
  derives_something s i j p = (
    (λ f. let h = (sound.attained s i j (p, all i j p)).1 f in (h.0, h.1)),
    (λ d. let h = (has_value d.0 (cell s i j) d.1).0 in omega arith),
  )

-- the span at hand can be begun
pub ready_begun : (g : List PlainForm) (w : List PlainToken) (i j k : ℕ) (t : PlainChart) →
    HasDone g w k t → span_number t.tokens i j ≡ length t.rows → i ≤ j → j ≤ t.tokens →
    IsAttainedChart g w i j t
ready_begun g w i j k t r e a b = begun g w i j t r.sound (a, let l = r.sound.long in omega arith) e r.is_row r.blank

-- there is room for the row at hand
pub room_left : (g : List PlainForm) (w : List PlainToken) (i j : ℕ) (t : PlainChart) → IsAttainedChart g w i j t → length t.rows < spans_before (suc t.tokens)
room_left g w i j t a =
    let e = a.next in let l = a.sound.long in let p = a.span.1 in
    let z : t.tokens - 0 ≡ t.tokens = omega arith in
    let h = within t.tokens 0 t.tokens i j (omega arith) (a.span.0) (omega arith) (omega arith) in let k = rw z at h in omega arith

-- the row at hand is put with the others
pub put_next : (g : List PlainForm) (w : List PlainToken) (i j k : ℕ) (t new : PlainChart) (row : List ℕ) → IsAttainedChart g w i j t → AreSettled g w i j (length g) t →
    length row ≡ length t.row → ((s : ℕ) → size_at row s ≡ no_size) → new ≡ record { tokens = t.tokens; rows = t.rows ++ (t.row ∷ []); row = row } → k ≡ length new.rows → HasDone g w k new
put_next g w i j k t new row a settled sized blank h e = rw h (record {
  sound = done_more g w i j t a (all_settled g w i j t a settled) row;
  count = let z = rw h at e in omega arith;
  is_row = sized ∙ a.is_row;
  blank = blank;
})

-- before the first span
pub none_ready : (g : List PlainForm) (w : List PlainToken) (n k : ℕ) (t : PlainChart) (row : List ℕ) → length w ≡ n → t ≡ record { tokens = n; rows = []; row = row } →
    length row ≡ length g → ((s : ℕ) → size_at row s ≡ no_size) → k ≡ length t.rows → HasDone g w k t
none_ready g w n k t row e f sized blank z = rw (f, ← e) (record { sound = none_done g w row; count = let y = rw f at z in omega arith; is_row = sized; blank = blank })

-- after the last span
pub filled : (g : List PlainForm) (w : List PlainToken) (k : ℕ) (t : PlainChart) → HasDone g w k t → spans_before (suc t.tokens) ≤ length t.rows → IsFilled g w t
filled g w k t r l = record {
  sound = r.sound;
  all = λ i j p.
      let e = r.sound.long in
      let z : t.tokens - 0 ≡ t.tokens = omega arith in
      let h = within t.tokens 0 t.tokens i j (omega arith) p.0 (let y = p.1 in omega arith) (omega arith) in let q = rw z at h in omega arith;
}
