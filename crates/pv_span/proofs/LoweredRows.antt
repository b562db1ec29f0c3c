-- A chart in whose row at hand a value was lowered.
use Rattle.std.specs.Prelude.{min, sum}
use Rattle.std.specs.List.{AllByRecursion}
use Rattle.std.proofs.Common.{Bool, List, [], ap, arith, false, inl, inr, length, refl, set, subst, true, ℕ, ◌+◌, ◌<◌, ◌||◌, ◌∙◌, ◌∷◌, ◌≡◌, ◌≤◌, ◌⊎◌}
use Rattle.std.proofs.Math.ListN.{get_or-eq_default, length-set}
use Rattle.std.proofs.lemmas.Bool.{cases_lt, or_parts}
use Rattle.std.proofs.lemmas.List.{get_or_default}
use Rattle.pv_model.specs.Plain.{PlainToken}
use Rattle.pv_rules.specs.Derivations.{DeriveAll, by_rule, heaviest, none_left, one_more, sum_of}
use Rattle.pv_productive.specs.Tables.{IsLowered, capped, no_size, size_at}
use Rattle.pv_productive.proofs.CutSums.{cut_below, cut_few, cut_least, cut_mono}
use Rattle.pv_span.specs.Charts.{AreSettled, AreSettledFrom, HasValue, IsAttainedChart, IsDone, IsSettling, IsSettledAt, IsSoundChart, PlainChart, row_of_span, span_number, value_of}
use Rattle.pv_layout.specs.ColumnRules.{Cell, ColumnRule, cell}
use Rattle.pv_layout.specs.Forms.{PlainForm}
use Rattle.pv_span.specs.Least.{IsLeastAt, IsOfRule}
use Rattle.pv_layout.proofs.ColumnFacts.{column_spans}
use Rattle.pv_span.proofs.SpanNumbers.{strictly_within, within}
use Rattle.pv_layout.proofs.PutValues.{cell_sum, each_cell, same_or_not}

module _ (g : List PlainForm) (w : List PlainToken) where
  -- a chart with other rows whose values over the spans that are done are those of this one
  module _ (t : PlainChart) (rows : List (List ℕ)) (row : List ℕ) (long : t.tokens ≡ length w) where
    abbrev other : PlainChart
    other = record { tokens = t.tokens; rows = rows; row = row }

    abbrev pub IsSame : Type 0
    IsSame = (k : ℕ) → k < length rows → row_of_span other k ≡ row_of_span t k

    same_sum : IsSame → (i j : ℕ) → IsDone w other i j → (xs : List Cell) → AllByRecursion (λ (x : Cell). (i ≤ x.from) × (x.from ≤ x.to) × (x.to ≤ j)) xs →
        sum_of (value_of other) xs ≡ sum_of (value_of t) xs
    same_sum same i j d [] a = refl
    same_sum same i j d (x ∷ xs) a =
        let p = a.0 in
        let s = d.0.1 in
        let m = d.1 in
        let l = within t.tokens i j x.from x.to p.0 p.1 p.2 (omega arith) in
        let e = ap (λ r. size_at r x.column) (same (span_number t.tokens x.from x.to) (omega arith)) in
        let f = same_sum same i j d xs a.1 in omega arith

    pub resound : IsSame → ((s i j : ℕ) → IsDone w other i j → HasValue g w (cell s i j) (value_of t (cell s i j)) × IsSettledAt g w t (cell s i j)) → IsSoundChart g w other
    resound same all = record {
      long = long;
      attained = λ s i j d. let e = ap (λ r. size_at r s) (same (span_number t.tokens i j) d.1) in rw e (all s i j d).0;
      settled = λ s i j d c xs r.
          let e = ap (λ o. size_at o s) (same (span_number t.tokens i j) d.1) in
          let f = same_sum same i j d xs (column_spans g w s i j c xs r).1 in
          rw (e, f) ((all s i j d).1 c xs r);
    }

module _ (g : List PlainForm) (w : List PlainToken) (i j : ℕ) where
  module _ (t : PlainChart) (a : IsAttainedChart g w i j t) where
    -- the row at hand is that of the span
    pub at_hand : (s : ℕ) → value_of t (cell s i j) ≡ size_at t.row s
    at_hand s = ap (λ r. size_at r s) (get_or-eq_default t.rows t.row (let e = a.next in omega arith))

    inner_attained : (s m k : ℕ) → i ≤ m → m ≤ k → k ≤ j → (i < m) ⊎ (k < j) → HasValue g w (cell s m k) (value_of t (cell s m k))
    inner_attained s m k p q r h =
        let n = a.next in let l = a.span.1 in let z = a.sound.long in
        a.sound.attained s m k ((q, omega arith), (let f = strictly_within t.tokens i j m k p q r (omega arith) h in omega arith))

    right_attained : (s m k : ℕ) → i ≤ m → m ≤ k → k ≤ j → HasValue g w (cell s m k) (value_of t (cell s m k))
    right_attained s m k p q r = elim (cases_lt i m) [
      | inl lt ↦ inner_attained s m k p q r (inl lt)
      | inr le ↦ elim (cases_lt k j) [
        | inl lt ↦ inner_attained s m k p q r (inr lt)
        | inr ge ↦ (
            let e : m ≡ i = omega arith in let f : k ≡ j = omega arith in
            rw (e, f) (let h = at_hand s in rw h (a.attained s))
            )
      ]
    ]

    pub all_attained : (xs : List Cell) → AllByRecursion (λ (x : Cell). (i ≤ x.from) × (x.from ≤ x.to) × (x.to ≤ j)) xs → sum_of (value_of t) xs < no_size →
        (m : ℕ) × DeriveAll (ColumnRule g w) m xs × (min heaviest (sum_of (value_of t) xs) ≡ min heaviest m)
    all_attained [] n f = (0, none_left 0 refl, refl)
    all_attained (x ∷ xs) n f =
        let p = n.0 in
        let d = (right_attained x.column x.from x.to p.0 p.1 p.2).1 (omega arith) in
        let r = all_attained xs n.1 (omega arith) in
        (d.0 + r.0, one_more (d.0 + r.0) d.0 r.0 x xs refl d.1 r.1, let y = d.2 in let z = r.2 in omega arith)

    pub sum_attained : (s k : ℕ) → IsOfRule g w (value_of t) (cell s i j) k → HasValue g w (cell s i j) (capped k)
    sum_attained s k l = (
      cut_least k,
      λ f.
          let few = cut_below k f in
          let b = l few in
          let z = b.3 in
          let r = all_attained b.1 (column_spans g w s i j b.0 b.1 b.2).1 (omega arith) in
          (b.0 + r.0, by_rule (b.0 + r.0) b.0 r.0 (cell s i j) b.1 refl b.2 r.1, let e = cut_few k few in let y = r.2 in omega arith),
    )

    pub sum_settled : (s k : ℕ) → IsLeastAt g w (value_of t) (cell s i j) k → size_at t.row s ≤ capped k → IsSettledAt g w t (cell s i j)
    sum_settled s k l e c xs r = let h = at_hand s in let m = cut_mono k (c + sum_of (value_of t) xs) (l.below c xs r) in omega arith

  abbrev pub At : ℕ → PlainChart → Type 0
  At s t = IsSettledAt g w t (cell s i j)

  -- nothing changed
  kept : (P : PlainChart → Type 0) (old new : PlainChart) → IsAttainedChart g w i j old → new ≡ old → P old → IsSettling g w i j P old new false
  kept P old new a e p = record { attained = rw e a; same = λ _. e; settled = λ _. p; less = λ f. absurd cc }

  changed : (P : PlainChart → Type 0) (old new : PlainChart) → IsAttainedChart g w i j new → sum new.row < sum old.row → IsSettling g w i j P old new true
  changed P old new a l = record { attained = a; same = λ f. absurd cc; settled = λ f. absurd cc; less = λ _. l }

  abbrev with_row : PlainChart → List ℕ → PlainChart
  with_row t r = record { tokens = t.tokens; rows = t.rows; row = r }

  put_attained : (t : PlainChart) (s k : ℕ) → IsAttainedChart g w i j t → s < length t.row → HasValue g w (cell s i j) k → IsAttainedChart g w i j (with_row t (set t.row s k))
  put_attained t s k a lt h = record {
    sound = resound g w t t.rows (set t.row s k) a.sound.long (λ m l. get_or_default t.rows m (set t.row s k) t.row l)
        (λ o m n d. (a.sound.attained o m n d, a.sound.settled o m n d));
    span = a.span;
    next = a.next;
    is_row = let e = a.is_row in simp length-set e;
    attained = each_cell (λ o v. HasValue g w (cell o i j) v) t.row s k lt h a.attained;
  }

  pub one_settling : (old : PlainChart) (row : List ℕ) (s k : ℕ) (b : Bool) → IsAttainedChart g w i j old → s < length old.row → IsLeastAt g w (value_of old) (cell s i j) k →
      IsLowered old.row row s (capped k) b → IsSettling g w i j (At s) old (with_row old row) b
  one_settling old row s k true a lt l f =
      let d = f.lowered refl in
      let e = ap (λ r. with_row old r) d.1 in
      changed (At s) old (with_row old row) (rw e (put_attained old s (capped k) a lt (sum_attained old a s k l.attained)))
      (let z = cell_sum old.row s (capped k) lt d.0 in rw d.1 z)
  one_settling old row s k false a lt l f =
      let d = f.kept refl in kept (At s) old (with_row old row) a (ap (λ r. with_row old r) d.1) (sum_settled old a s k l d.0)

  -- an attained chart stays attained where a value is lowered to an attained one
  pub one_attained : (old : PlainChart) (row : List ℕ) (s k : ℕ) (b : Bool) → IsAttainedChart g w i j old → s < length old.row → IsOfRule g w (value_of old) (cell s i j) k →
      IsLowered old.row row s (capped k) b → IsAttainedChart g w i j (with_row old row)
  one_attained old row s k true a lt l f =
      let d = f.lowered refl in
      let e = ap (λ r. with_row old r) d.1 in
      rw e (put_attained old s (capped k) a lt (sum_attained old a s k l))
  one_attained old row s k false a lt l f =
      let d = f.kept refl in let e : with_row old row ≡ old = ap (λ r. with_row old r) d.1 in rw e a

  pub settling_none : (t : PlainChart) (P : PlainChart → Type 0) → IsAttainedChart g w i j t → P t → IsSettling g w i j P t t false
  settling_none t P a p = kept P t t a refl p

  -- values don't grow
  not_more : (P : PlainChart → Type 0) (old new : PlainChart) (b : Bool) → IsSettling g w i j P old new b → sum new.row ≤ sum old.row
  not_more P old new true r = let l = r.less refl in omega arith
  not_more P old new false r = let e = r.same refl in rw e (omega arith)

  less_both : (P Q : PlainChart → Type 0) (a b c : PlainChart) (x y : Bool) → IsSettling g w i j P a b x → IsSettling g w i j Q b c y → (x || y) ≡ true → sum c.row < sum a.row
  less_both P Q a b c true y r s e = let l = r.less refl in let m = not_more Q b c y s in omega arith
  less_both P Q a b c false y r s e = let l = s.less e in let m = not_more P a b false r in omega arith

  -- one after the other
  pub settling_both : (P Q : PlainChart → Type 0) (a b c : PlainChart) (x y : Bool) → IsSettling g w i j P a b x → IsSettling g w i j Q b c y →
      IsSettling g w i j (λ t. P t × Q t) a c (x || y)
  settling_both P Q a b c x y r s = record {
    attained = s.attained;
    same = λ e. let p = or_parts x y e in s.same p.1 ∙ r.same p.0;
    settled = λ e. let p = or_parts x y e in (r.settled p.0, subst Q (r.same p.0) (s.settled p.1));
    less = λ e. less_both P Q a b c x y r s e;
  }

  pub settling_map : (P Q : PlainChart → Type 0) (a b : PlainChart) (x : Bool) → ((t : PlainChart) → P t → Q t) → IsSettling g w i j P a b x → IsSettling g w i j Q a b x
  settling_map P Q a b x f r = record { attained = r.attained; same = r.same; settled = λ e. f a (r.settled e); less = r.less }

  module _ (first : ℕ) where
    abbrev From : ℕ → PlainChart → Type 0
    From = AreSettledFrom g w i j first

    settled_more : (end : ℕ) (t : PlainChart) → From end t × At end t → From (end + 1) t
    settled_more end t (p, d) q a l = elim (same_or_not q end) [ inl z ↦ rw z d | inr ne ↦ p q a (omega arith) ]

    -- one column more
    pub column_settling : (end : ℕ) (a b c : PlainChart) (x y : Bool) → IsSettling g w i j (From end) a b x → IsSettling g w i j (At end) b c y →
        IsSettling g w i j (From (end + 1)) a c (x || y)
    column_settling end a b c x y r s =
        settling_map (λ u. From end u × At end u) (From (end + 1)) a c (x || y) (λ u k. settled_more end u k)
        (settling_both (From end) (At end) a b c x y r s)

    settled_all : (end : ℕ) (t : PlainChart) → From end t × AreSettledFrom g w i j 0 first t → AreSettled g w i j end t
    settled_all end t (p, d) q l = elim (cases_lt q first) [ inl lt ↦ d q (omega arith) lt | inr ge ↦ p q ge l ]

    -- the columns from a number on, and those before it
    pub all_settling : (end : ℕ) (a b c : PlainChart) (x y : Bool) → IsSettling g w i j (From end) a b x → IsSettling g w i j (AreSettledFrom g w i j 0 first) b c y →
        IsSettling g w i j (AreSettled g w i j end) a c (x || y)
    all_settling end a b c x y r s =
        settling_map (λ u. From end u × AreSettledFrom g w i j 0 first u) (AreSettled g w i j end) a c (x || y) (λ u k. settled_all end u k)
        (settling_both (From end) (AreSettledFrom g w i j 0 first) a b c x y r s)
