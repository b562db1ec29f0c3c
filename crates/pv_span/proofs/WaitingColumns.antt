-- Values over the span at hand that fall, and the columns that wait then.
use Rattle.std.specs.List.{AllByRecursion}
use Rattle.std.proofs.Common.{Bool, List, Some, [], ap, arith, false, get_or-set_other, get_or-set_same, inl, inr, length, refl, slice_get, sym, true, ℕ, ◌+◌, ◌<◌, ◌∙◌, ◌∷◌, ◌≡◌, ◌≤◌, ◌⊎◌}
use Rattle.std.proofs.Math.ListN.{get_or-eq_default}
use Rattle.std.proofs.lemmas.Bool.{cases_lt}
use Rattle.std.proofs.lemmas.List.{get_or_default}
use Rattle.std.proofs.lemmas.Option.{slice_get_within}
use Rattle.pv_model.specs.Plain.{PlainToken}
use Rattle.pv_rules.specs.Derivations.{sum_of}
use Rattle.pv_productive.specs.Tables.{IsLowered, capped, no_size, size_at}
use Rattle.pv_productive.proofs.CutSums.{cut_few, cut_many, cut_mono}
use Rattle.pv_span.specs.Charts.{AreSettled, IsAttainedChart, PlainChart, span_number, value_of}
use Rattle.pv_layout.specs.ColumnRules.{Cell, ColumnRule, IsRightSide, IsOneOf, cell}
use Rattle.pv_layout.specs.Forms.{PlainForm, form_at, of_none}
use Rattle.pv_layout.specs.Mentions.{columns_mentioned}
use Rattle.pv_span.specs.Waits.{AllWait, AreHeld, HaveFallen, IsHeld, IsHeldBy, IsHeldFrom, IsToldByOthers, Waits}
use Rattle.pv_span.specs.declared.waiting.Waiting.{Waiting}
use Rattle.pv_layout.proofs.ColumnFacts.{column_spans}
use Rattle.pv_layout.proofs.MentionedColumns.{mentions_right}
use Rattle.pv_span.proofs.SpanNumbers.{strictly_within}
use Rattle.pv_layout.proofs.PutValues.{same_or_not}
use Rattle.pv_span.proofs.LoweredRows.{at_hand}

-- a value that is lowered to v
pub lowered_below : (old new : List ℕ) (c v : ℕ) (b : Bool) → c < length old → IsLowered old new c v b → size_at new c ≤ v
lowered_below old new c v true lt l =
    let d = l.lowered refl in let e : size_at new c ≡ v = rw d.1 (get_or-set_same old c v no_size lt) in omega arith
lowered_below old new c v false lt l = let d = l.kept refl in let e = ap (λ r. size_at r c) d.1 in let z = d.0 in omega arith

module _ (before behind : Waiting) (kept : (d : ℕ) → Waits before d → Waits behind d) (long : length behind.flags.items ≡ length before.flags.items) where
  pub none_fallen : (old new : List ℕ) → new ≡ old → HaveFallen before behind old new
  none_fallen old new e = record { each = λ d. inl (ap (λ r. size_at r d) e); kept = kept; long = long }

  pub one_fallen : (old new : List ℕ) (c v : ℕ) (b : Bool) → c < length old → IsLowered old new c v b → Waits behind c → HaveFallen before behind old new
  one_fallen old new c v false lt l w = none_fallen old new (l.kept refl).1
  one_fallen old new c v true lt l w = record {
    each = λ d. elim (same_or_not d c) [
      | inl e ↦ (
          let p = l.lowered refl in let x = p.0 in
          let q : size_at new c ≡ v = rw p.1 (get_or-set_same old c v no_size lt) in
          inr (rw e (omega arith), rw e w)
          )
      | inr ne ↦ (let p = l.lowered refl in inl (rw p.1 (get_or-set_other old c d v no_size ne)))
    ];
    kept = kept;
    long = long;
  }

pub fallen_both : (u v w : Waiting) (a b c : List ℕ) → HaveFallen u v a b → HaveFallen v w b c → HaveFallen u w a c
fallen_both u v w a b c f g = record {
  each = λ d. elim (g.each d) [
    | inl e ↦ elim (f.each d) [ inl h ↦ inl (e ∙ h) | inr h ↦ inr (let x = h.0 in omega arith, g.kept d h.1) ]
    | inr e ↦ elim (f.each d) [ inl h ↦ inr (let x = e.0 in omega arith, e.1) | inr h ↦ inr (let x = e.0 in let y = h.0 in omega arith, e.1) ]
  ];
  kept = λ d k. g.kept d (f.kept d k);
  long = g.long ∙ f.long;
}

module _ (g : List PlainForm) (w : List PlainToken) (i j : ℕ) where
  -- where there is no column there is no rule
  pub none_held : (P : ℕ → Type 0) (t : PlainChart) (c : ℕ) → length g ≤ c → IsHeld g w i j P t c
  none_held P t c ge n xs r = absurd (let e : form_at g c ≡ of_none = get_or-eq_default g of_none ge in rw e at r)

  pub held_map : (P Q : ℕ → Type 0) (t : PlainChart) → ((d : ℕ) → P d → Q d) → AreHeld g w i j P t → AreHeld g w i j Q t
  held_map P Q t f h c n xs r = elim (h c n xs r) [ inl l ↦ inl l | inr p ↦ inr (p.0, p.1, f p.0 p.2) ]

  -- where no column waits the rules lower nothing
  pub held_settled : (P : ℕ → Type 0) (t : PlainChart) (m : ℕ) → ((d : ℕ) → P d → ⊥) → AreHeld g w i j P t → AreSettled g w i j m t
  held_settled P t m none h s l n xs r = elim (h s n xs r) [ inl q ↦ q | inr p ↦ absurd (none p.0 p.2) ]

  module _ (t : PlainChart) (a : IsAttainedChart g w i j t) where
    among_sum : (d : ℕ) (xs : List Cell) → IsRightSide (cell d i j) xs → size_at t.row d ≤ sum_of (value_of t) xs
    among_sum d [] x' = elim x' [ ]
    among_sum d (x ∷ xs) (inl e) = let h = at_hand g w i j t a d in let z = ap (value_of t) e in omega arith
    among_sum d (x ∷ xs) (inr m) = let h = among_sum d xs m in omega arith

    few_fixed : (c m : ℕ) → size_at t.row c ≤ m → size_at t.row c ≤ capped m
    few_fixed c m l = elim (cases_lt m no_size) [
      | inl lt ↦ (let h = (a.attained c).1 (omega arith) in let z = h.2 in let e = cut_few m lt in omega arith)
      | inr ge ↦ (let h = (a.attained c).0 in let e = cut_many m ge in omega arith)
    ]

    -- a rule with a right side that isn't less
    pub less_held : (P : ℕ → Type 0) (c v n : ℕ) (xs : List Cell) (d : ℕ) → size_at t.row c ≤ v → IsRightSide (cell d i j) xs → v ≤ size_at t.row d → IsHeldBy g w i j P t c n xs
    less_held P c v n xs d l m k =
        let h = at_hand g w i j t a c in let s = among_sum d xs m in
        inl (rw h (few_fixed c (n + sum_of (value_of t) xs) (omega arith)))

    -- a column that is told by others, where all that have a value wait
    pub others_held : (P : ℕ → Type 0) (c : ℕ) → IsToldByOthers w i j (form_at g c) →
        ((d : ℕ) → (no_size ≤ size_at t.row d) ⊎ P d) → IsHeld g w i j P t c
    others_held P c told wait n xs r =
        let o = told c n xs r in
        elim (wait o.0) [
          | inl few ↦ rw o.1 (less_held P c no_size n (cell o.0 i j ∷ []) o.0 ((a.attained c).0)
              (inl refl) few)
          | inr p ↦ rw o.1 (inr (o.0, inl refl, p))
        ]

  module _ (t new : PlainChart) (a : IsAttainedChart g w i j t) (b : IsAttainedChart g w i j new) (tokens : new.tokens ≡ t.tokens) (rows : new.rows ≡ t.rows) (W : ℕ → Type 0)
      (fell : (d : ℕ) → (size_at new.row d ≡ size_at t.row d) ⊎ ((size_at new.row d ≤ size_at t.row d) × W d)) where
    inner_same : (s m k : ℕ) → i ≤ m → m ≤ k → k ≤ j → (i < m) ⊎ (k < j) → value_of new (cell s m k) ≡ value_of t (cell s m k)
    inner_same s m k p q r h =
        let n = a.next in let l = a.span.1 in let z = a.sound.long in
        let lt : span_number t.tokens m k < length t.rows = let f = strictly_within t.tokens i j m k p q r (omega arith) h in omega arith in
        rw (tokens, rows) (ap (λ o. size_at o s) (get_or_default t.rows (span_number t.tokens m k) new.row t.row lt))

    whole_same : (s : ℕ) → (value_of new (cell s i j) ≡ value_of t (cell s i j)) ⊎ ((cell s i j ≡ cell s i j) × W s)
    whole_same s = elim (fell s) [
      | inl e ↦ inl (at_hand g w i j new b s ∙ e ∙ sym (at_hand g w i j t a s))
      | inr p ↦ inr (refl, p.1)
    ]

    right_same : (s m k : ℕ) → i ≤ m → m ≤ k → k ≤ j → (value_of new (cell s m k) ≡ value_of t (cell s m k)) ⊎ ((cell s i j ≡ cell s m k) × W s)
    right_same s m k p q r = elim (cases_lt i m) [
      | inl lt ↦ inl (inner_same s m k p q r (inl lt))
      | inr le ↦ elim (cases_lt k j) [
        | inl lt ↦ inl (inner_same s m k p q r (inr lt))
        | inr ge ↦ (let e : m ≡ i = omega arith in let f : k ≡ j = omega arith in rw (e, f) (whole_same s))
      ]
    ]

    sums : (xs : List Cell) → AllByRecursion (λ (x : Cell). (i ≤ x.from) × (x.from ≤ x.to) × (x.to ≤ j)) xs →
        (sum_of (value_of new) xs ≡ sum_of (value_of t) xs) ⊎ ((d : ℕ) × IsRightSide (cell d i j) xs × W d)
    sums [] n = inl refl
    sums (x ∷ xs) n =
        let p = n.0 in
        elim (right_same x.column x.from x.to p.0 p.1 p.2) [
          | inl e ↦ elim (sums xs n.1) [ inl f ↦ inl (omega arith) | inr r ↦ inr (r.0, inr r.1, r.2) ]
          | inr r ↦ inr (x.column, inl r.0, r.1)
        ]

    fewer : (s : ℕ) → size_at new.row s ≤ size_at t.row s
    fewer s = elim (fell s) [ inl e ↦ omega arith | inr l ↦ (let x = l.0 in omega arith) ]

    -- a rule whose column was lowered to what it gave
    pub sum_held : (c n : ℕ) (xs : List Cell) → ColumnRule g w (cell c i j) n xs → size_at new.row c ≤ capped (n + sum_of (value_of t) xs) → IsHeldBy g w i j W new c n xs
    sum_held c n xs r l = elim (sums xs (column_spans g w c i j n xs r).1) [
      | inl e ↦ inl (let h = at_hand g w i j new b c in rw (e, h) l)
      | inr p ↦ inr p
    ]

    pub lowered_held : (c n k : ℕ) (xs : List Cell) → ColumnRule g w (cell c i j) n xs → size_at new.row c ≤ capped k → k ≤ n + sum_of (value_of t) xs → IsHeldBy g w i j W new c n xs
    lowered_held c n k xs r l m = sum_held c n xs r (let h = cut_mono k (n + sum_of (value_of t) xs) m in omega arith)

    -- what was held before
    pub still_held : (P : ℕ → Type 0) → ((d : ℕ) → P d → W d) → (c n : ℕ) (xs : List Cell) → ColumnRule g w (cell c i j) n xs → IsHeldBy g w i j P t c n xs → IsHeldBy g w i j W new c n xs
    still_held P f c n xs r (inl l) = sum_held c n xs r (let h = at_hand g w i j t a c in let y = fewer c in omega arith)
    still_held P f c n xs r (inr p) = inr (p.0, p.1, f p.0 p.2)

    module _ (before behind : Waiting) where
      -- one column more of those that are lowered first
      pub begin_more : ((d : ℕ) → Waits before d → W d) → (k : ℕ) → ((s : ℕ) → s < k → IsHeld g w i j (Waits before) t s) → IsHeld g w i j W new k → (s : ℕ) → s < k + 1 → IsHeld g w i j W new s
      begin_more kept k h now s l = elim (same_or_not s k) [
        | inl e ↦ rw e now
        | inr ne ↦ λ n xs r. still_held (Waits before) kept s n xs r (h s (omega arith) n xs r)
      ]

-- all that have a value wait, where those do whose values fell
pub fallen_wait : (before behind : Waiting) (old new : List ℕ) → HaveFallen before behind old new → ((s : ℕ) → size_at old s ≡ no_size) → AllWait behind new
fallen_wait before behind old new f blank d = elim (f.each d) [ inl e ↦ inl (let z = blank d in omega arith) | inr p ↦ inr p.1 ]

-- the number stands among these, at place k or after it
abbrev pub IsFrom : List ℕ → ℕ → ℕ → Type 0
IsFrom xs k s = (m : ℕ) × (k ≤ m) × (slice_get xs m ≡ Some s)

-- column d waits, or it is the one whose mentions are lowered, and s is still to come
abbrev pub StillWaits : Waiting → ℕ → List ℕ → ℕ → ℕ → ℕ → Type 0
StillWaits v column xs k s d = ((column ≡ d) × IsFrom xs k s) ⊎ Waits v d

module _ (g : List PlainForm) (w : List PlainToken) (i j : ℕ) (column value : ℕ) (above : List ℕ) where
  abbrev IsHeldStill : Waiting → ℕ → PlainChart → Type 0
  IsHeldStill v k t = (s : ℕ) → IsHeld g w i j (StillWaits v column above k s) t s

  module _ (t new : PlainChart) (a : IsAttainedChart g w i j t) (b : IsAttainedChart g w i j new) (tokens : new.tokens ≡ t.tokens) (rows : new.rows ≡ t.rows) (before behind : Waiting)
      (f : HaveFallen before behind t.row new.row) (k number : ℕ) (e : slice_get above k ≡ Some number)
      (first : (value ≤ size_at t.row column) ⊎ Waits before column) (held : IsHeldFrom g w i j (Waits behind) t new number value) where
    kept_still : (s d : ℕ) → StillWaits before column above k s d → StillWaits behind column above k s d
    kept_still s d (inl p) = inl p
    kept_still s d (inr q) = inr (f.kept d q)

    fell_still : (s d : ℕ) → (size_at new.row d ≡ size_at t.row d) ⊎ ((size_at new.row d ≤ size_at t.row d) × StillWaits behind column above k s d)
    fell_still s d = elim (f.each d) [ inl q ↦ inl q | inr q ↦ inr (q.0, inr q.1) ]

    widen : (s n : ℕ) (xs : List Cell) → IsHeldBy g w i j (Waits behind) new s n xs → IsHeldBy g w i j (StillWaits behind column above (k + 1) s) new s n xs
    widen s n xs (inl l) = inl l
    widen s n xs (inr p) = inr (p.0, p.1, inr p.2)

    at_place : (s n d : ℕ) (xs : List Cell) → s ≡ number → column ≡ d →
        ColumnRule g w (cell s i j) n xs → IsRightSide (cell d i j) xs →
        IsHeldBy g w i j (StillWaits behind column above (k + 1) s) new s n xs
    at_place s n d xs z q r h = elim first [
      | inl l ↦ rw z (widen number n xs (held n xs d (rw z at r) h (rw q at l)))
      | inr p ↦ inr (d, h, inr (rw q at (f.kept column p)))
    ]

    after_place : (s n : ℕ) (xs : List Cell) → ColumnRule g w (cell s i j) n xs → IsHeldBy g w i j (StillWaits behind column above k s) new s n xs →
        IsHeldBy g w i j (StillWaits behind column above (k + 1) s) new s n xs
    after_place s n xs r (inl l) = inl l
    after_place s n xs r (inr (d, h, inr p)) = inr (d, h, inr p)
    after_place s n xs r (inr (d, h, inl (q, (m, l, o)))) = elim (cases_lt k m) [
      | inl lt ↦ inr (d, h, inl (q, (m, omega arith, o)))
      | inr le ↦ (
          let z : m ≡ k = omega arith in
          let y : s ≡ number = let u = rw z at o in cc in at_place s n d xs y q r h
          )
    ]

    -- the column at one place more is lowered
    pub place_more : IsHeldStill before k t → IsHeldStill behind (k + 1) new
    place_more h s n xs r =
        after_place s n xs r (still_held g w i j t new a b tokens rows (StillWaits behind column above k s) (fell_still s) (StillWaits before column above k s) (kept_still s) s n xs r (h s n xs r))

  module _ (t : PlainChart) (v : Waiting) where
    -- before the first place, and after the last one
    pub first_place : ((s d : ℕ) → IsOneOf d (columns_mentioned (form_at g s)) → column ≡ d → IsOneOf s above) → AreHeld g w i j (λ d. (column ≡ d) ⊎ Waits v d) t → IsHeldStill v 0 t
    first_place told h s n xs r = elim (h s n xs r) [
      | inl l ↦ inl l
      | inr p ↦ elim p.2 [
        | inl e ↦ (let o = told s p.0 (mentions_right g w s i j n xs p.0 r p.1) e in inr (p.0, p.1, inl (e, (o.0, omega arith, o.1))))
        | inr q ↦ inr (p.0, p.1, inr q)
      ]
    ]

    pub last_place : (k : ℕ) → length above ≤ k → IsHeldStill v k t → AreHeld g w i j (Waits v) t
    last_place k l h s n xs r = elim (h s n xs r) [
      | inl q ↦ inl q
      | inr p ↦ elim p.2 [
        | inl e ↦ absurd (let o = e.1 in let u = o.1 in let z = slice_get_within above o.0 s o.2 in omega arith)
        | inr q ↦ inr (p.0, p.1, q)
      ]
    ]
