-- The columns of members that a loop has taken.
use Rattle.std.proofs.Common.{List, Some, [], ap, arith, inl, inr, length, refl, slice_get, suc, zero, ℕ, ◌++◌, ◌+◌, ◌-◌, ◌<◌, ◌∙◌, ◌∷◌, ◌≡◌, ◌≤◌, ◌⊎◌}
use Rattle.std.proofs.Math.ListN.{get_or-append}
use Rattle.std.proofs.Math.Seq.{get_or-append_seam}
use Rattle.std.proofs.lemmas.Bool.{cases_lt}
use Rattle.pv_layout.specs.ColumnRules.{IsOneOf}
use Rattle.pv_layout.specs.Columns.{AreColumns, column_at, no_column}

-- one element more at the end of a list
earlier : (ds : List ℕ) (e k d : ℕ) → slice_get ds k ≡ Some d → slice_get (ds ++ (e ∷ [])) k ≡ Some d
earlier [] e k d h = absurd cc
earlier (x ∷ ds) e zero d h = h
earlier (x ∷ ds) e (suc k) d h = earlier ds e k d h

last : (ds : List ℕ) (e : ℕ) → slice_get (ds ++ (e ∷ [])) (length ds) ≡ Some e
last [] e = refl
last (x ∷ ds) e = last ds e

pub among_more : (ds : List ℕ) (e d : ℕ) → IsOneOf d ds → IsOneOf d (ds ++ (e ∷ []))
among_more ds e d i = (i.0, earlier ds e i.0 d i.1)

pub among_last : (ds : List ℕ) (e : ℕ) → IsOneOf e (ds ++ (e ∷ []))
among_last ds e = (length ds, last ds e)

pub one_of_both : (ds : List ℕ) (e k d : ℕ) → slice_get (ds ++ (e ∷ [])) k ≡ Some d → (slice_get ds k ≡ Some d) ⊎ (d ≡ e)
one_of_both [] e zero d h = inr (cc)
one_of_both [] e (suc k) d h = absurd cc
one_of_both (x ∷ ds) e zero d h = inl h
one_of_both (x ∷ ds) e (suc k) d h = one_of_both ds e k d h

-- one column more, that of number m
module _ (column : ℕ → ℕ) (ds : List ℕ) (m v : ℕ) (same : v ≡ column m) where
  pub among_this : IsOneOf (column m) (ds ++ (v ∷ []))
  among_this = rw (← same) (among_last ds v)

  pub only_more : (P : ℕ → Type 0) → P m → ((n d : ℕ) → slice_get ds n ≡ Some d → (k : ℕ) × P k × (d ≡ column k)) → (n d : ℕ) → slice_get (ds ++ (v ∷ [])) n ≡ Some d →
      (k : ℕ) × P k × (d ≡ column k)
  only_more P has only n d h = elim (one_of_both ds v n d h) [ inl i ↦ only n d i | inr e ↦ (m, has, e ∙ same) ]

-- so many numbers from one on
module _ (column : ℕ → ℕ) (first n : ℕ) (ds : List ℕ) (v : ℕ) (le : first ≤ n) (same : v ≡ column n) (are : AreColumns (λ e. first + e < n) (λ e. column (first + e)) ds) where
  number_case : (e : ℕ) → first + e < suc n → (first + e < n) ⊎ (n ≤ first + e) → IsOneOf (column (first + e)) (ds ++ (v ∷ []))
  number_case e lt (inl l) = among_more ds v (column (first + e)) (are.each e l)
  number_case e lt (inr l) = let z : first + e ≡ n = omega arith in rw (z, ← same) (among_last ds v)

  last_case : (k d : ℕ) → (slice_get ds k ≡ Some d) ⊎ (d ≡ v) → (e : ℕ) × (first + e < suc n) × (d ≡ column (first + e))
  last_case k d (inl h) = let o = are.only k d h in (o.0, (let l = o.1 in omega arith), o.2)
  last_case k d (inr h) = (n - first, omega arith, let z : first + (n - first) ≡ n = omega arith in rw z (h ∙ same))

  pub numbers_more : (m : ℕ) → m ≡ suc n → AreColumns (λ e. first + e < m) (λ e. column (first + e)) (ds ++ (v ∷ []))
  numbers_more m e = rw e (record {
    each = λ k l. number_case k l (cases_lt (first + k) n);
    only = λ k d h. last_case k d (one_of_both ds v k d h);
  })

pub numbers_none : (column : ℕ → ℕ) (first : ℕ) → AreColumns (λ e. first + e < first) (λ e. column (first + e)) []
numbers_none column first = record { each = λ k l. absurd (omega arith); only = λ k d h. absurd cc }

-- a number more after those from 0 on
pub count_more : (ns : List ℕ) (n : ℕ) → length ns ≡ n → ((x : ℕ) → x < n → column_at ns x ≡ x) → (x : ℕ) → x < suc n → column_at (ns ++ (n ∷ [])) x ≡ x
count_more ns n e each x l = elim (cases_lt x n) [
  | inl lt ↦ get_or-append ns (n ∷ []) no_column x (omega arith) ∙ each x lt
  | inr ge ↦ (
      let z : x ≡ length ns = omega arith in
      let y : n ≡ length ns = omega arith in
      let s = get_or-append_seam ns n [] no_column in rw z (s ∙ y)
      )
]

-- those that a mixed model lists, and the declared names
pub listed_columns : (column : ℕ → ℕ) (first end start n : ℕ) (ds : List ℕ) → first ≡ start → end ≡ start + n → AreColumns (λ e. first + e < end) (λ e. column (first + e)) ds →
    AreColumns (λ e. e < n) (λ e. column (start + e)) ds
listed_columns column first end start n ds e f are = rw (← e) (record {
  each = λ k l. are.each k (omega arith);
  only = λ k d h. let o = are.only k d h in (o.0, (let l = o.1 in omega arith), o.2);
})

pub declared_columns : (column : ℕ → ℕ) (end n : ℕ) (ds : List ℕ) → end ≡ n → AreColumns (λ e. 0 + e < end) (λ e. column (0 + e)) ds → AreColumns (λ e. e < n) column ds
declared_columns column end n ds f are = record {
  each = λ k l. let i = are.each k (omega arith) in let z : 0 + k ≡ k = omega arith in rw z at i;
  only = λ k d h. let o = are.only k d h in let z : 0 + o.0 ≡ o.0 = omega arith in (o.0, (let l = o.1 in omega arith), o.2 ∙ ap column z);
}
