-- One cell is raised.
use Rattle.std.proofs.Common.{◌≡◌, ◌≢◌, ◌≤◌, ◌<◌, ◌⊎◌, ℕ, zero, suc, ◌+◌, ◌*◌, ◌-◌, List, [], ◌∷◌, Contains, get_or, length, set, refl, sym, ◌∙◌}
use Rattle.std.proofs.Common.{subst, arith, inl, inr, get_or-set_other, get_or-set_same}
use Rattle.std.proofs.Math.ListN.{length-set}
use Rattle.std.proofs.Math.Nat.{mul-le-mul_right}
use Rattle.std.proofs.lemmas.List.{get_or_default}
use Rattle.std.proofs.lemmas.List.Sums.{sum_by-set}
use Rattle.std.proofs.lemmas.Bool.{cases_lt}
use Rattle.pv_model.specs.declared.models.Token.{Token}
use Rattle.pv_columns.specs.declared.rules.ColumnRule.{ColumnRule}
use Rattle.pv_columns.specs.ColumnRules.{ReadsToken, ReadThrough, done, by_rule, InRange}
use Rattle.pv_reach.specs.Tables.{past, IsTable, IsReachedTable, IsClosedAt, RaisesNothing, IsComplete, room}
use Rattle.pv_columns.proofs.Spans.{reads_within, reaches_within}
use Rattle.pv_reach.proofs.Cells.{cell_within}
use Rattle.pv_reach.proofs.ClosedCells.{columns_in_range, past_reaches}

same_or_not : (k i : ℕ) → (k ≡ i) ⊎ (k ≢ i)
same_or_not k i = elim (cases_lt k i) [ inl lt ↦ inr (omega arith) | inr le ↦ elim (cases_lt i k) [ inl lt ↦ inr (omega arith) | inr ge ↦ inl (omega arith) ] ]

pub set_at : (P : ℕ → ℕ → Type 0) (table : List ℕ) (i v k : ℕ) → i < length table → (k ≡ i → P v k) → (k ≢ i → P (get_or table k 0) k) → P (get_or (set table i v) k 0) k
set_at P table i v k lt here there = elim (same_or_not k i) [
  | inl e ↦ (let q : get_or (set table i v) k 0 ≡ v = rw e (get_or-set_same table i v 0 lt) in rw q (here e))
  | inr ne ↦ (let q : get_or (set table i v) k 0 ≡ get_or table k 0 = rw get_or-set_other in rw q (there ne))
]

-- two cells at one index are one cell
same_cell : (width i c p l : ℕ) → c < width → l < width → i * width + c ≡ p * width + l → (i ≡ p) × (c ≡ l)
same_cell width i c p l lc ll e = elim (cases_lt i p) [
  | inl ip ↦ absurd (let h = mul-le-mul_right {m = suc i} {n = p} width (omega arith) in omega arith)
  | inr pi ↦ elim (cases_lt p i) [
    | inl pi ↦ absurd (let h = mul-le-mul_right {m = suc p} {n = i} width (omega arith) in omega arith)
    | inr ip ↦ (let s : i ≡ p = omega arith in (s, (let P : ℕ → Type 0 = λ x. i * width + c ≡ x * width + l in let q = subst P (sym s) e in omega arith)))
  ]
]

set_rises : (table : List ℕ) (i v k : ℕ) → i < length table → get_or table i 0 < v → get_or table k 0 ≤ get_or (set table i v) k 0
set_rises table i v k lt less = set_at (λ x j. get_or table j 0 ≤ x) table i v k lt (λ e. rw e (omega arith)) (λ ne. omega arith)

set_less : (most : ℕ) (table : List ℕ) (i v : ℕ) → i < length table → get_or table i 0 < v → v ≤ most → room most (set table i v) < room most table
set_less most table i v lt less le = let e = sum_by-set (λ x. most - x) table i v 0 lt in omega arith

set_table : (word : List Token) (width : ℕ) (table : List ℕ) (i v : ℕ) → IsTable word width table → i < length table → v ≤ suc (length word) → IsTable word width (set table i v)
set_table word width table i v is lt le = record {
  long = let h = is.long in simp length-set h;
  bounded = λ k. set_at (λ x j. x ≤ suc (length word)) table i v k lt (λ e. le) (λ ne. is.bounded k);
}

-- what a rule offers is derived
offer_reaches : (rules : List ColumnRule) (word : List Token) (width : ℕ) (table : List ℕ)
    (place : ℕ) (r : ColumnRule) (v : ℕ) → IsTable word width table →
    IsReachedTable rules word width table → InRange width rules →
    place ≤ length word → Contains rules r → (m : ℕ) × ReadsToken word r.token place m × (v ≡ past width table r.columns.items m) → (j : ℕ) → v ≡ suc j → ReadThrough rules word (r.left ∷ []) place j
offer_reaches rules word width table place r v is att range short con (m, reads, e) j q =
    by_rule r.left [] r place m j j con refl reads
    (past_reaches rules word width table is att r.columns.items (columns_in_range width rules r range con).1 m j (reads_within word r.token place m reads short) (sym e ∙ q))
    (done j j refl)

set_attained : (rules : List ColumnRule) (word : List Token) (width : ℕ) (table : List ℕ)
    (place : ℕ) (r : ColumnRule) (v : ℕ) → IsTable word width table →
    IsReachedTable rules word width table → InRange width rules →
    place ≤ length word → Contains rules r → place * width + r.left < length table → (m : ℕ) × ReadsToken word r.token place m × (v ≡ past width table r.columns.items m) →
    IsReachedTable rules word width (set table (place * width + r.left) v)
set_attained rules word width table place r v is att range short con at offer = record { reaches = reaches }
  where
    reaches : (c i j : ℕ) → c < width → i ≤ length word → get_or (set table (place * width + r.left) v) (i * width + c) 0 ≡ suc j → ReadThrough rules word (c ∷ []) i j
    reaches c i j lt le = set_at (λ x _. x ≡ suc j → ReadThrough rules word (c ∷ []) i j) table (place * width + r.left) v (i * width + c) at
        (λ e q.
        let s = same_cell width i c place r.left lt (columns_in_range width rules r range con).0 e in
        rw (s.0, s.1) (offer_reaches rules word width table place r v is att range short con offer j q))
        (λ ne q. att.reaches c i j lt le q)

-- a cell that is raised to what a rule offers
pub record Raised (rules : List ColumnRule) (word : List Token) (width : ℕ) (old new : List ℕ) : Type 0 where
  pub table : IsTable word width new
  pub attained : IsReachedTable rules word width new
  pub rises : (k : ℕ) → get_or old k 0 ≤ get_or new k 0
  pub less : room (suc (length word)) new < room (suc (length word)) old

at_most : (n v : ℕ) → ((j : ℕ) → v ≡ suc j → j ≤ n) → v ≤ suc n
at_most n zero f = omega arith
at_most n (suc j) f = let h = f j refl in omega arith

pub raised : (rules : List ColumnRule) (word : List Token) (width : ℕ) (table : List ℕ) (place : ℕ)
    (r : ColumnRule) (v : ℕ) → IsTable word width table → IsReachedTable rules word width table →
    InRange width rules →
    place ≤ length word → Contains rules r → get_or table (place * width + r.left) 0 < v → (0 < v → (m : ℕ) × ReadsToken word r.token place m × (v ≡ past width table r.columns.items m)) →
    Raised rules word width table (set table (place * width + r.left) v)
raised rules word width table place r v is att range short con less offers = record {
  table = set_table word width table (place * width + r.left) v is at most;
  attained = set_attained rules word width table place r v is att range short con at (offers (omega arith));
  rises = λ k. set_rises table (place * width + r.left) v k at less;
  less = set_less (suc (length word)) table (place * width + r.left) v at less most;
}
  where
    at : place * width + r.left < length table
    at = let h = cell_within (length word) width place r.left short (columns_in_range width rules r range con).0 in let q = is.long in omega arith

    most : v ≤ suc (length word)
    most = at_most (length word) v (λ j e. reaches_within rules word (r.left ∷ []) place j (offer_reaches rules word width table place r v is att range short con (offers (omega arith)) j e) short)

-- one more rule holds
pub holds_more : (H : ColumnRule → Type 0) (xs : List ColumnRule) (i : ℕ) (d0 : ColumnRule) → i < length xs → H (get_or xs i d0) → ((k : ℕ) (d : ColumnRule) → k < i → H (get_or xs k d)) →
    (k : ℕ) (d : ColumnRule) → k < i + 1 → H (get_or xs k d)
holds_more H xs i d0 lt here below k d less = elim (same_or_not k i) [
  | inl e ↦ (let q : get_or xs k d ≡ get_or xs i d0 = rw e (get_or_default xs i d d0 lt) in rw q here)
  | inr ne ↦ below k d (omega arith)
]

pub all_hold : (rules : List ColumnRule) (word : List Token) (width : ℕ) (table : List ℕ)
    (place : ℕ) → ((k : ℕ) (d : ColumnRule) → k < length rules →
    RaisesNothing word width table place (get_or rules k d)) → IsClosedAt rules word width table place
all_hold rules word width table place h = record { holds = λ r con. let P : ColumnRule → Type 0 = RaisesNothing word width table place in subst P con.2 (h con.0 r con.1) }

-- what is complete stays so while cells rise
pub rise_complete : (rules : List ColumnRule) (word : List Token) (width : ℕ) (old new : List ℕ)
    (from : ℕ) → ((k : ℕ) → get_or old k 0 ≤ get_or new k 0) →
    IsComplete rules word width old from → IsComplete rules word width new from
rise_complete rules word width old new from up full = record { beyond = λ c i j lt ge le d. let a = full.beyond c i j lt ge le d in let b = up (i * width + c) in omega arith }
