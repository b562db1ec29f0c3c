-- Content that goes on after one name or another asks for the most of the names alone.
use Rattle.std.proofs.Common.{List, Some, [], ap, arith, inl, inr, length, refl, slice_get, subst, suc, sym, zero, ℕ, ◌<◌, ◌∙◌, ◌≡◌, ◌≤◌, ◌⊎◌, ◌+◌, ◌++◌, ◌∷◌}
use Rattle.std.proofs.lemmas.Bool.{cases_lt}
use Rattle.pv_dtd.specs.Plain.{IsDeclared, PlainDtd, declared}
use Rattle.pv_rules.specs.Sites.{PlainSite, name_site}
use Rattle.pv_denial.specs.RowForms.{AreMost, HoldsTwoSides, IsMost, value_then, one_past, past_at}
use Rattle.pv_denial.specs.Rows.{EachRow, IsRow, row_value}
use Rattle.pv_denial.specs.declared.denials.Row.{Row}
use Rattle.pv_denial.proofs.Lists.{front_or_end}
use Rattle.pv_denial.proofs.SiteRows.{past_bounds, past_some, slice_get_below, value_rises}

module _ (g : PlainDtd) (n : ℕ) (rows : List Row) (each : EachRow (IsRow g n) rows) where
  -- what is told of a site doesn't fall
  past_rises : (s : PlainSite) (i j : ℕ) → i ≤ j → j ≤ n → past_at rows s i ≤ past_at rows s j
  past_rises s i j le short = go (past_at rows s i) refl
    where
      go : (v : ℕ) → past_at rows s i ≡ v → v ≤ past_at rows s j
      go zero e = omega arith
      go (suc k) e =
          let r = value_rises g n rows each s i j k (past_some (row_value rows s i) k e) le short in
          let f : past_at rows s j ≡ suc r.0 = ap one_past r.1 in
          let m = r.2 in omega arith

  -- what stands after a value isn't more than what stands after a greater one
  behind_rises : (s : PlainSite) (p q : ℕ) → p ≤ q → q ≤ suc n → value_then p (past_at rows s) ≤ value_then q (past_at rows s)
  behind_rises s zero q le short = omega arith
  behind_rises s (suc i) zero le short = absurd (omega arith)
  behind_rises s (suc i) (suc j) le short = past_rises s i j (omega arith) (omega arith)

  module _ (ms : List ℕ) (most : AreMost g rows n ms) where
    -- no most leads after the word
    most_short : (i m : ℕ) → IsMost g rows i m → m ≤ suc n
    most_short i m is = by is.attained
      where
        told : (y v : ℕ) → past_at rows (name_site y) i ≡ v → v ≤ suc n
        told y zero e = omega arith
        told y (suc k) e = let b = (past_bounds g n rows each (name_site y) i k e).1 in omega arith

        by : (m ≡ 0) ⊎ ((y : ℕ) × IsDeclared g y × (past_at rows (name_site y) i ≡ m)) → m ≤ suc n
        by (inl e) = omega arith
        by (inr (y, d, e)) = told y m e

    pub names_by_most : (s : PlainSite) → ((i m : ℕ) → slice_get ms i ≡ Some m → value_then m (past_at rows s) ≤ past_at rows s i) → (y : ℕ) → IsDeclared g y → HoldsTwoSides rows s (name_site y) s n
    names_by_most s h y d i le =
        let l = most.long in
        let x = slice_get_below ms i (omega arith) in
        let is = most.each i x.0 x.1 in
        let a = behind_rises s (past_at rows (name_site y) i) x.0 (is.all y d) (most_short i x.0 is) in
        let b = h i x.0 x.1 in omega arith

-- the most of the first names
pub record IsMostTo (rows : List Row) (i count m : ℕ) : Type 0 where
  pub all : (y : ℕ) → y < count → past_at rows (name_site y) i ≤ m
  pub attained : (m ≡ 0) ⊎ ((y : ℕ) × (y < count) × (past_at rows (name_site y) i ≡ m))

pub most_none : (rows : List Row) (i : ℕ) → IsMostTo rows i 0 0
most_none rows i = record { all = λ y lt. absurd (omega arith); attained = inl refl }

-- one name more
pub most_more : (rows : List Row) (i y m v k : ℕ) → IsMostTo rows i y m → v ≡ past_at rows (name_site y) i → m ≤ k → v ≤ k → (k ≡ m) ⊎ (k ≡ v) → IsMostTo rows i (y + 1) k
most_more rows i y m v k before is le ge one = record { all = λ z lt. at z (cases_lt z y) lt; attained = by one before.attained }
  where
    at : (z : ℕ) → (z < y) ⊎ (y ≤ z) → z < y + 1 → past_at rows (name_site z) i ≤ k
    at z (inl less) lt = let a = before.all z less in omega arith
    at z (inr more) lt =
        let same : y ≡ z = omega arith in
        let P : ℕ → Type 0 = λ u. past_at rows (name_site u) i ≤ k in subst P same (omega arith)

    by : (k ≡ m) ⊎ (k ≡ v) → (m ≡ 0) ⊎ ((z : ℕ) × (z < y) × (past_at rows (name_site z) i ≡ m)) → (k ≡ 0) ⊎ ((z : ℕ) × (z < y + 1) × (past_at rows (name_site z) i ≡ k))
    by (inr new) old = inr (y, omega arith, sym is ∙ sym new)
    by (inl same) (inl none) = inl (same ∙ none)
    by (inl same) (inr (z, lt, f)) = inr (z, omega arith, f ∙ sym same)

pub most_all : (g : PlainDtd) (rows : List Row) (i count m : ℕ) → count ≡ declared g → IsMostTo rows i count m → IsMost g rows i m
most_all g rows i count m size is = record {
  all = λ y d. is.all y (omega arith);
  attained = by is.attained;
}
  where
    by : (m ≡ 0) ⊎ ((y : ℕ) × (y < count) × (past_at rows (name_site y) i ≡ m)) → (m ≡ 0) ⊎ ((y : ℕ) × IsDeclared g y × (past_at rows (name_site y) i ≡ m))
    by (inl e) = inl e
    by (inr (y, lt, e)) = inr (y, omega arith, e)

-- the most of one place more
pub mosts_more : (g : PlainDtd) (rows : List Row) (ms : List ℕ) (m n : ℕ) → length ms ≡ n →
    IsMost g rows n m → ((i k : ℕ) → slice_get ms i ≡ Some k → IsMost g rows i k) → (i k : ℕ) →
    slice_get (ms ++ m ∷ []) i ≡ Some k → IsMost g rows i k
mosts_more g rows ms m n long is each i k e = by (front_or_end ms m i k e)
  where
    by : (slice_get ms i ≡ Some k) ⊎ ((i ≡ length ms) × (m ≡ k)) → IsMost g rows i k
    by (inl f) = each i k f
    by (inr (last, same)) =
        let P : ℕ → Type 0 = λ v. IsMost g rows v k in
        subst P (sym (last ∙ long)) (subst (IsMost g rows n) same is)
