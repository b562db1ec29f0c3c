-- Cells that are attained and closed hold the furthest places.
use Rattle.std.proofs.Common.{◌≡◌, ◌≤◌, ◌<◌, ◌⊎◌, ℕ, zero, suc, ◌+◌, ◌*◌, max, List, [], ◌∷◌, Option, Some, None, Contains, All, length, refl, subst, arith, inl, inr}
use Rattle.std.proofs.lemmas.Bool.{cases_lt}
use Rattle.pv_model.specs.declared.models.Token.{Token}
use Rattle.pv_columns.specs.declared.rules.ColumnRule.{ColumnRule}
use Rattle.pv_columns.specs.ColumnRules.{ReadsToken, ReadThrough, done, by_rule, TokensMayBeMissing, InRange}
use Rattle.pv_reach.specs.Tables.{cell_at, past, onward, IsTable, IsReachedTable, IsClosedAt, IsComplete}
use Rattle.pv_columns.proofs.Spans.{join, within, reads_within, reaches_on, reaches_within}

-- a rule's columns are in range
pub columns_in_range : (width : ℕ) (rules : List ColumnRule) (r : ColumnRule) → InRange width rules → Contains rules r → (r.left < width) × All (λ c. c < width) r.columns.items
columns_in_range width rules r range con =
    let P : ColumnRule → Type 0 = λ x. (x.left < width) × All (λ c. c < width) x.columns.items in
    subst P con.2 (range con.0 r con.1)

all_first : (width c : ℕ) (cs : List ℕ) → All (λ x. x < width) (c ∷ cs) → c < width
all_first width c cs a = a 0 0 (omega arith)

all_rest : (width c : ℕ) (cs : List ℕ) → All (λ x. x < width) (c ∷ cs) → All (λ x. x < width) cs
all_rest width c cs a = λ k d lt. a (suc k) d (omega arith)

-- a value that is above 0
record Above (v k : ℕ) : Type 0 where
  pub last : ℕ
  pub is : v ≡ suc last
  pub most : k ≤ last

above : (v k : ℕ) → k < v → Above v k
above zero k lt = absurd (omega arith)
above (suc l) k lt = record { last = l; is = refl; most = omega arith }

alone : (width c : ℕ) → c < width → All (λ x. x < width) (c ∷ [])
alone width c lt zero d k = lt
alone width c lt (suc k) d h = absurd (omega arith)

module _ (rules : List ColumnRule) (word : List Token) (width : ℕ) (table : List ℕ) (is : IsTable word width table) where
  -- one column, and then what is derived from where it leads
  reaches_step : (c : ℕ) (cs : List ℕ) (i j v : ℕ) → cell_at width table c i ≡ v → onward v (past width table cs) ≡ suc j →
      ((k : ℕ) → cell_at width table c i ≡ suc k → ReadThrough rules word (c ∷ []) i k) → ((k : ℕ) → k ≤ length word → past width table cs k ≡ suc j → ReadThrough rules word cs k j) →
      ReadThrough rules word (c ∷ cs) i j
  reaches_step c cs i j zero q e one rest = absurd (omega arith)
  reaches_step c cs i j (suc k) q e one rest =
      join rules word c cs i k j (one k q) (rest k (let b = is.bounded (i * width + c) in omega arith) e)

  -- what the columns lead to is derived
  pub past_reaches : IsReachedTable rules word width table → (cs : List ℕ) → All (λ x. x < width) cs → (i j : ℕ) → i ≤ length word → past width table cs i ≡ suc j → ReadThrough rules word cs i j
  past_reaches att [] range i j le e = done i j (omega arith)
  past_reaches att (c ∷ cs) range i j le e =
      reaches_step c cs i j (cell_at width table c i) refl e (λ k q. att.reaches c i k (all_first width c cs range) le q)
      (λ k lt q. past_reaches att cs (all_rest width c cs range) k j lt q)

  module _ (missing : TokensMayBeMissing rules word) where
    -- a column that reaches k or beyond, and then what is derived from k
    beyond_step : (c : ℕ) (cs : List ℕ) (i k j : ℕ) → ReadThrough rules word cs k j → Above (cell_at width table c i) k → j < past width table cs k →
        ((p l : ℕ) → k < p → p ≤ length word → ReadThrough rules word cs p l → l < past width table cs p) → j < past width table (c ∷ cs) i
    beyond_step c cs i k j f a here later = rw a.is (from_last (cases_lt k a.last))
      where
        from_last : (k < a.last) ⊎ (a.last ≤ k) → j < past width table cs a.last
        from_last (inr le) = let e : k ≡ a.last = let q = a.most in omega arith in let P : ℕ → Type 0 = λ x. j < past width table cs x in subst P e here
        from_last (inl lt) =
            let far : (a.last ≡ max j a.last) ⊎ ((k ≤ a.last) × (max j a.last ≤ j)) =
            elim (cases_lt a.last j) [ inl lj ↦ inr (omega arith, omega arith) | inr jl ↦ inl (omega arith) ] in
            let b = is.bounded (i * width + c) in
            let h = later a.last (max j a.last) lt (let q = a.is in omega arith) (within rules word missing cs k j f a.last (max j a.last) (omega arith) far) in
            omega (arith, h)

    -- where the cells are complete no columns go beyond where they lead
    pub past_beyond : (from : ℕ) → IsComplete rules word width table from → (cs : List ℕ) → All (λ x. x < width) cs →
        (i j : ℕ) → from ≤ i → i ≤ length word → ReadThrough rules word cs i j → j < past width table cs i
    past_beyond from full [] range i j le lt (done _ _ e) = omega arith
    past_beyond from full (c ∷ cs) range i j le lt (by_rule _ _ r _ m k _ con e reads d f) =
        let one : ReadThrough rules word (c ∷ []) i k = by_rule c [] r i m k k con e reads d (done k k refl) in
        let on : i ≤ k = reaches_on rules word (c ∷ []) i k one in
        beyond_step c cs i k j f
        (above (cell_at width table c i) k (full.beyond c i k (all_first width c cs range) le lt one))
        (past_beyond from full cs (all_rest width c cs range) k j (omega arith) (reaches_within rules word (c ∷ []) i k one lt) f)
        (λ p l kp short g. past_beyond from full cs (all_rest width c cs range) p l (omega arith) short g)

    -- a place that is closed is complete if those after it are
    module _ (place : ℕ) (range : InRange width rules) (closed : IsClosedAt rules word width table place) (full : IsComplete rules word width table (suc place)) (short : place ≤ length word) where
      -- what a rule reaches is no further than its cell
      offer : (r : ColumnRule) (o : Option Token) (m k : ℕ) → Contains rules r → r.token ≡ o → ReadsToken word o place m →
          ReadThrough rules word r.columns.items m k → (m ≡ place → k < past width table r.columns.items m) → k < cell_at width table r.left place
      offer r None m k con e reads d here =
          let h = closed.holds r con m (rw e reads) in
          let q = here reads in omega arith
      offer r (Some t) m k con e reads d here =
          let h = closed.holds r con m (rw e reads) in
          let q = past_beyond (suc place) full r.columns.items (columns_in_range width rules r range
          con).1 m k (let s = reads.1 in omega arith) (reads_within word (Some t) place m reads
          short) d in omega arith

      -- also from this place, if it is so there
      from_here : (cs : List ℕ) → All (λ x. x < width) cs → (i j : ℕ) → place ≤ i →
          i ≤ length word → ReadThrough rules word cs i j →
          (i ≡ place → j < past width table cs i) → j < past width table cs i
      from_here cs cols i j le lt d here = elim (cases_lt place i) [ inl behind ↦ past_beyond (suc place) full cs cols i j behind lt d | inr same ↦ here (omega arith) ]

      pub reached : (cs : List ℕ) → All (λ x. x < width) cs → (i j : ℕ) → i ≡ place → ReadThrough rules word cs i j → j < past width table cs i
      reached [] cols i j e (done _ _ q) = omega arith
      reached (c ∷ cs) cols i j e (by_rule _ _ r _ m k _ con q reads d f) =
          let one : ReadThrough rules word (c ∷ []) i k = by_rule c [] r i m k k con q reads d (done k k refl) in
          let on : i ≤ k = reaches_on rules word (c ∷ []) i k one in
          let less : k < cell_at width table r.left place =
          offer r r.token m k con refl (let R : ℕ → Type 0 = λ x. ReadsToken word r.token x m in subst R e reads) d
          (λ s. reached r.columns.items (columns_in_range width rules r range con).1 m k s d) in
          beyond_step c cs i k j f
          (above (cell_at width table c i) k (rw (q, e) less))
          (from_here cs (all_rest width c cs cols) k j (omega arith) (reaches_within rules word (c ∷ []) i k one (omega arith)) f (λ s. reached cs (all_rest width c cs cols) k j s f))
          (λ p l kp lt g. past_beyond (suc place) full cs (all_rest width c cs cols) p l (omega arith) lt g)

one_cell : (width : ℕ) (table : List ℕ) (j v : ℕ) → j < onward v (past width table []) → j < v
one_cell width table j zero lt = lt
one_cell width table j (suc k) lt = lt

pub closed_complete : (rules : List ColumnRule) (word : List Token) (width : ℕ) (table : List ℕ) (place : ℕ) → IsTable word width table → TokensMayBeMissing rules word → InRange width rules →
    IsClosedAt rules word width table place → IsComplete rules word width table (suc place) → place ≤ length word → IsComplete rules word width table place
closed_complete rules word width table place is missing range closed full short = record { beyond = beyond }
  where
    beyond : (c i j : ℕ) → c < width → place ≤ i → i ≤ length word → ReadThrough rules word (c ∷ []) i j → j < cell_at width table c i
    beyond c i j lt le within d = elim (cases_lt place i) [
      | inl behind ↦ full.beyond c i j lt behind within d
      | inr here ↦ one_cell width table j (cell_at width table c i) (reached rules word width table is missing place range closed full short (c ∷ []) (alone width c lt) i j (omega arith) d)
    ]
