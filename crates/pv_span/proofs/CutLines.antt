-- Lines: what a cut more adds, and what they tell of a span.
use Rattle.std.specs.Prelude.{min}
use Rattle.std.proofs.Common.{List, Some, [], ap, arith, inl, inr, length, refl, set, slice_get, suc, sym, zero, ℕ, ◌++◌, ◌+◌, ◌-◌, ◌<◌, ◌∙◌, ◌∷◌, ◌≡◌, ◌≤◌, ◌⊎◌}
use Rattle.std.proofs.lemmas.Bool.{cases_lt}
use Rattle.std.proofs.lemmas.List.{get_or_default}
use Rattle.std.proofs.Math.ListN.{get_or-append}
use Rattle.pv_productive.specs.Tables.{no_size, size_at}
use Rattle.pv_span.specs.Charts.{PlainChart, span_number, value_of}
use Rattle.pv_layout.specs.ColumnRules.{Cell, cell}
use Rattle.pv_span.specs.Least.{IsLeastCut}
use Rattle.pv_span.specs.Lines.{IsBlankLine, IsLine, done_value, least_cut}
use Rattle.pv_span.specs.declared.lines.Line.{Line}
use Rattle.pv_span.proofs.CutSums.{cut_more}
use Rattle.pv_span.proofs.SpanNumbers.{later_spans, strictly_within}

-- an element of a list in which one was set
pub get_set : {X : Type 0} (xs : List X) (n : ℕ) (v : X) (k : ℕ) (l : X) → slice_get (set xs n v) k ≡ Some l → ((k ≡ n) × (l ≡ v)) ⊎ (slice_get xs k ≡ Some l)
get_set [] n v k l e = inr e
get_set (x ∷ xs) zero v zero l e = inl (refl, cc)
get_set (x ∷ xs) zero v (suc k) l e = inr e
get_set (x ∷ xs) (suc n) v zero l e = inr e
get_set (x ∷ xs) (suc n) v (suc k) l e = elim (get_set xs n v k l e) [ inl p ↦ inl (ap suc p.0, p.1) | inr r ↦ inr r ]

module _ (t : Cell → ℕ) (one two i j : ℕ) where
  pub few_cuts : (k : ℕ) → least_cut t one two i j k ≤ no_size
  few_cuts zero = omega arith
  few_cuts (suc k) = let h = few_cuts k in omega arith

  -- the least sum over so many places
  pub is_least : (k h : ℕ) → h ≡ suc i + k → IsLeastCut t one two i j (suc i) h (least_cut t one two i j k)
  is_least zero h e = record { below = λ m a b. absurd (omega arith); attained = λ f. absurd (omega arith) }
  is_least (suc k) h e =
      let l = is_least k (suc i + k) refl in
      let z : suc i + k ≡ i + suc k = omega arith in
      cut_more t one two i j (suc i) (i + suc k) (least_cut t one two i j k)
      (t (cell one i (i + suc k)) + t (cell two (i + suc k) j)) (least_cut t one two i j (suc k)) (rw z at l) (omega arith) (omega arith) (λ f. refl) refl h (omega arith)

  -- so many places, where none is strictly within
  pub none_within : (h : ℕ) → h ≤ suc i → IsLeastCut t one two i j (suc i) h no_size
  none_within h l = record { below = λ m a b. absurd (omega arith); attained = λ f. absurd (omega arith) }

  pub is_least_within : (h : ℕ) → IsLeastCut t one two i j (suc i) h (least_cut t one two i j (h - suc i))
  is_least_within h = elim (cases_lt h (suc i)) [
    | inl lt ↦ (let z : h - suc i ≡ 0 = omega arith in rw z (none_within h (omega arith)))
    | inr ge ↦ is_least (h - suc i) h (omega arith)
  ]

  -- a place more, in front
  pub cut_first : (h k s r : ℕ) → i < h → IsLeastCut t one two i j (suc i) h k → s ≤ t (cell one i i) + t (cell two i j) →
      (s < no_size → s ≡ t (cell one i i) + t (cell two i j)) → r ≡ min k s → IsLeastCut t one two i j i h r
  cut_first h k s r lt l v u e = record {
    below = λ m a b. elim (cases_lt i m) [
      | inl m' ↦ (let z = l.below m m' b in omega arith)
      | inr le ↦ (let z : m ≡ i = omega arith in rw z (omega arith))
    ];
    attained = λ few. elim (cases_lt k s) [
      | inl less ↦ (let a = l.attained (omega arith) in let y = a.1 in (a.0, omega arith, a.2, let z = a.3 in omega arith))
      | inr le ↦ (i, omega arith, lt, let z = u (omega arith) in omega arith)
    ];
  }

  -- where two tables agree on what the cuts are made of, so do their least cuts
  pub same_cuts : (o : Cell → ℕ) (k : ℕ) → ((m : ℕ) → i < m → m ≤ i + k → (t (cell one i m) ≡ o (cell one i m)) × (t (cell two m j) ≡ o (cell two m j))) →
      least_cut t one two i j k ≡ least_cut o one two i j k
  same_cuts o zero a = refl
  same_cuts o (suc k) a =
      let h = same_cuts o k (λ m p q. a m p (omega arith)) in
      let d = a (i + suc k) (omega arith) (omega arith) in
      let x = d.0 in let y = d.1 in omega arith

module _ (n : ℕ) (rows : List (List ℕ)) (i j : ℕ) where
  abbrev t : Cell → ℕ
  t = done_value n rows

  -- what a line tells is no more than that of no cut
  pub few_told : (l : Line) → IsLine n rows i j l → (p : ℕ) → j ≤ p → p ≤ n → p < length l.least.items → size_at l.least.items p ≤ no_size
  few_told l h p a b c = let e = h p a b c in let f = few_cuts t l.one l.two i p (j - suc i) in omega arith

  -- the cut before which nothing stands adds nothing
  pub no_more : (l : Line) → IsLine n rows i j l → (j ≤ i) ⊎ ((i < j) × (no_size ≤ done_value n rows (cell l.one i j))) → IsLine n rows i (suc j) l
  no_more l h (inl le) p a b c =
      let e = h p (omega arith) b c in
      let x : j - suc i ≡ 0 = omega arith in let y : suc j - suc i ≡ 0 = omega arith in rw y (let f = rw x at e in f)
  no_more l h (inr (lt, none)) p a b c =
      let e = h p (omega arith) b c in
      let x : suc j - suc i ≡ suc (j - suc i) = omega arith in
      let y : i + suc (j - suc i) ≡ j = omega arith in
      let f = few_cuts t l.one l.two i p (j - suc i) in
      rw (x, y) (omega arith)

  -- one cut more
  pub one_more : (old new : Line) (before : ℕ) → i < j → new.one ≡ old.one → new.two ≡ old.two → length new.least.items ≡ length old.least.items →
      before ≡ done_value n rows (cell old.one i j) →
      ((p : ℕ) → j < p → p ≤ n → p < length old.least.items →
      size_at new.least.items p ≡ min (size_at old.least.items p) (before + done_value n rows (cell old.two j p))) →
      IsLine n rows i j old → IsLine n rows i (suc j) new
  one_more old new before lt eo et el eb each h p a b c =
      let e = h p (omega arith) b (omega arith) in
      let s = each p (omega arith) b (omega arith) in
      let x : suc j - suc i ≡ suc (j - suc i) = omega arith in
      let y : i + suc (j - suc i) ≡ j = omega arith in
      rw (eo, et, x, y) (omega arith)

  -- a row after those that are done changes no line
  module _ (row : List ℕ) (le : i ≤ j) (within : j ≤ n) (next : span_number n i j ≡ length rows) where
    earlier : (a b : ℕ) → span_number n a b < length rows → (s : ℕ) → done_value n rows (cell s a b) ≡ done_value n (rows ++ (row ∷ [])) (cell s a b)
    earlier a b l s = ap (λ r. size_at r s) (sym (get_or-append rows (row ∷ []) [] (span_number n a b) l))

    pub longer : (l : Line) → IsLine n rows i j l → IsLine n (rows ++ (row ∷ [])) i j l
    longer l h p a b c =
        h p a b c ∙ same_cuts t l.one l.two i p (done_value n (rows ++ (row ∷ []))) (j - suc i)
        (λ m q r. (
          earlier i m (let f = strictly_within n i j i m (omega arith) (omega arith) (omega arith) within (inr (omega arith)) in omega arith) l.one,
          earlier m p (let f = later_spans (n - m) (n - i) (omega arith) in omega arith) l.two,
        ))

-- lines of which nothing is known
pub blank_line : (n : ℕ) (rows : List (List ℕ)) (i : ℕ) (l : Line) → IsBlankLine l → IsLine n rows i i l
blank_line n rows i l b p a c d = let x : i - suc i ≡ 0 = omega arith in rw x (b p d)

-- what a line tells of the span at hand
module _ (t : PlainChart) (i j : ℕ) (le : i ≤ j) (within : j ≤ t.tokens) (next : span_number t.tokens i j ≡ length t.rows) where
  at_done : (a b : ℕ) → span_number t.tokens a b < length t.rows → (s : ℕ) → done_value t.tokens t.rows (cell s a b) ≡ value_of t (cell s a b)
  at_done a b l s = ap (λ r. size_at r s) (get_or_default t.rows (span_number t.tokens a b) [] t.row l)

  pub told : (l : Line) → IsLine t.tokens t.rows i j l → j < length l.least.items →
      IsLeastCut (value_of t) l.one l.two i j (suc i) j (size_at l.least.items j)
  told l h c =
      let e = h j (omega arith) within c ∙ same_cuts (done_value t.tokens t.rows) l.one l.two i j (value_of t) (j - suc i)
      (λ m q r. (
        at_done i m (let f = strictly_within t.tokens i j i m (omega arith) (omega arith) (omega arith) within (inr (omega arith)) in omega arith) l.one,
        at_done m j (let f = strictly_within t.tokens i j m j (omega arith) (omega arith) (omega arith) within (inl q) in omega arith) l.two,
      )) in
      rw e (is_least_within (value_of t) l.one l.two i j j)
