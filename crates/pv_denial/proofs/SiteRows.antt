-- The rows of sites: where they are found, and what they have at places.
use Rattle.std.specs.Prelude.{◌&&◌, Bool, false, nat_eq, option_and_then, true}
use Rattle.std.proofs.Common.{List, None, Option, Some, [], arith, inl, inr, length, refl, slice_get, subst, suc, sym, zero, ℕ, ◌<◌, ◌∷◌, ◌≡◌, ◌≢◌, ◌≤◌, ◌⊎◌, ◌∙◌, ap}
use Rattle.std.proofs.lemmas.Bool.{cases_lt, eq-eqb, eqb-true}
use Rattle.pv_dtd.specs.Plain.{PlainDtd}
use Rattle.pv_rules.specs.Barriers.{IsWithinRows}
use Rattle.pv_rules.specs.PlainForms.{plain_site}
use Rattle.pv_rules.specs.Rules.{over}
use Rattle.pv_rules.specs.Sites.{PlainSite, content_site, name_site, part_site, rest_site}
use Rattle.pv_tables.specs.Tables.{kind_rank, site_number}
use Rattle.pv_tables.specs.Values.{are_same_sites}
use Rattle.pv_denial.specs.RowForms.{one_past, past_at}
use Rattle.pv_denial.specs.Rows.{AreOfOtherSites, EachRow, IsRow, row_of_site, row_value}
use Rattle.pv_denial.specs.declared.denials.Row.{Row}

-- a site by its kind and number
abbrev site_by : ℕ → ℕ → PlainSite
site_by zero n = content_site n
site_by (suc zero) n = name_site n
site_by (suc (suc zero)) n = part_site n
site_by (suc (suc (suc k))) n = rest_site n

by_itself : (a : PlainSite) → site_by (kind_rank a) (site_number a) ≡ a
by_itself (content_site x) = refl
by_itself (name_site x) = refl
by_itself (part_site q) = refl
by_itself (rest_site q) = refl

both_true : (x y : Bool) → (x && y) ≡ true → (x ≡ true) × (y ≡ true)
both_true true y e = (refl, e)
both_true false y e = absurd cc

pub same_site : (a b : PlainSite) → are_same_sites a b ≡ true → a ≡ b
same_site a b e =
    let halves = both_true (nat_eq (kind_rank a) (kind_rank b)) (nat_eq (site_number a) (site_number b)) e in
    let kinds = eqb-true (kind_rank a) (kind_rank b) halves.0 in
    let numbers = eqb-true (site_number a) (site_number b) halves.1 in
    let one : site_by (kind_rank a) (site_number a) ≡ site_by (kind_rank b) (site_number b) = rw (kinds, numbers) refl in
    sym (by_itself a) ∙ one ∙ by_itself b

pub other_site : (a b : PlainSite) → are_same_sites a b ≡ false → a ≢ b
other_site a b e z =
    let P : PlainSite → Type 0 = λ v. are_same_sites a v ≡ false in not_itself a (subst P (sym z) e)
  where
    not_itself : (x : PlainSite) → are_same_sites x x ≡ false → ⊥
    not_itself x y =
        let t : are_same_sites x x ≡ true = rw (eq-eqb (kind_rank x) (kind_rank x) refl, eq-eqb (site_number x) (site_number x) refl) refl in cc

pub slice_get_below : {A : Type 0} (xs : List A) (k : ℕ) → k < length xs → (x : A) × (slice_get xs k ≡ Some x)
slice_get_below [] k lt = absurd (omega arith)
slice_get_below (x ∷ xs) zero lt = (x, refl)
slice_get_below (x ∷ xs) (suc k) lt = slice_get_below xs k (omega arith)

-- a row that is found
pub record IsFound (rows : List Row) (s : PlainSite) (r : Row) : Type 0 where
  pub place : ℕ
  pub is_there : slice_get rows place ≡ Some r
  pub is_site : plain_site r.site ≡ s

found_case : (q : Row) (rows : List Row) (s : PlainSite) (r : Row) (b : Bool) → are_same_sites (plain_site q.site) s ≡ b → row_of_site (q ∷ rows) s ≡ Some r →
    (row_of_site rows s ≡ Some r → IsFound rows s r) → IsFound (q ∷ rows) s r
found_case q rows s r true e f on = record {
  place = 0;
  is_there = let x : row_of_site (q ∷ rows) s ≡ Some q = rw e refl in sym x ∙ f;
  is_site = let x : row_of_site (q ∷ rows) s ≡ Some q = rw e refl in let z : q ≡ r = cc in
      let P : Row → Type 0 = λ v. plain_site v.site ≡ s in subst P z (same_site (plain_site q.site) s e);
}
found_case q rows s r false e f on =
    let x : row_of_site (q ∷ rows) s ≡ row_of_site rows s = rw e refl in
    let h = on (sym x ∙ f) in record { place = suc h.place; is_there = h.is_there; is_site = h.is_site }

pub row_found : (rows : List Row) (s : PlainSite) (r : Row) → row_of_site rows s ≡ Some r → IsFound rows s r
row_found [] s r f = absurd cc
row_found (q ∷ rows) s r f = found_case q rows s r (are_same_sites (plain_site q.site) s) refl f (λ h. row_found rows s r h)

none_case : (q : Row) (rows : List Row) (s : PlainSite) (b : Bool) → are_same_sites (plain_site q.site) s ≡ b → row_of_site (q ∷ rows) s ≡ None → (plain_site q.site ≢ s) × (row_of_site rows s ≡ None)
none_case q rows s true e f = let x : row_of_site (q ∷ rows) s ≡ Some q = rw e refl in absurd cc
none_case q rows s false e f = let x : row_of_site (q ∷ rows) s ≡ row_of_site rows s = rw e refl in (other_site (plain_site q.site) s e, sym x ∙ f)

pub row_none : (rows : List Row) (s : PlainSite) → row_of_site rows s ≡ None → (k : ℕ) (r : Row) → slice_get rows k ≡ Some r → plain_site r.site ≢ s
row_none [] s f k r h = absurd cc
row_none (q ∷ rows) s f zero r h =
    let n = none_case q rows s (are_same_sites (plain_site q.site) s) refl f in let z : q ≡ r = cc in
    let P : Row → Type 0 = λ v. plain_site v.site ≢ s in subst P z n.0
row_none (q ∷ rows) s f (suc k) r h = let n = none_case q rows s (are_same_sites (plain_site q.site) s) refl f in row_none rows s n.1 k r h

-- where no two rows have one site, the row of a site is the one that has it
pub row_is : (rows : List Row) (s : PlainSite) (k : ℕ) (r : Row) → AreOfOtherSites rows → slice_get rows k ≡ Some r → plain_site r.site ≡ s → row_of_site rows s ≡ Some r
row_is rows s k r once h e = go (row_of_site rows s) refl
  where
    same_place : (q : Row) (x : IsFound rows s q) → (x.place < k) ⊎ (k ≤ x.place) → (k < x.place) ⊎ (x.place ≤ k) → q ≡ r
    same_place q x (inl lt) y = absurd (once x.place k q r lt x.is_there h (x.is_site ∙ sym e))
    same_place q x (inr ge) (inl lt) = absurd (once k x.place r q lt h x.is_there (e ∙ sym x.is_site))
    same_place q x (inr ge) (inr le) =
        let z : x.place ≡ k = omega arith in
        let P : ℕ → Type 0 = λ v. slice_get rows v ≡ Some q in
        let y : slice_get rows k ≡ Some q = subst P z x.is_there in cc

    go : (o : Option Row) → row_of_site rows s ≡ o → row_of_site rows s ≡ Some r
    go None f = absurd (row_none rows s f k r h e)
    go (Some q) f = let x = row_found rows s q f in f ∙ ap (λ v. Some v) (same_place q x (cases_lt x.place k) (cases_lt k x.place))

pub past_none : (o : Option ℕ) → one_past o ≡ 0 → o ≡ None
past_none None e = refl
past_none (Some k) e = absurd (omega arith)

pub past_some : (o : Option ℕ) (k : ℕ) → one_past o ≡ suc k → o ≡ Some k
past_some None k e = absurd (omega arith)
past_some (Some j) k e = let z : j ≡ k = omega arith in ap (λ v. Some v) z

-- a site leads to j or beyond where j is below what is told of it
pub within_past : (rows : List Row) (s : PlainSite) (i j : ℕ) → IsWithinRows (row_value rows) (over s i j) → suc j ≤ past_at rows s i
within_past rows s i j (k, e, le) = let x : past_at rows s i ≡ suc k = ap one_past e in omega arith

pub past_within : (rows : List Row) (s : PlainSite) (i j : ℕ) → suc j ≤ past_at rows s i → IsWithinRows (row_value rows) (over s i j)
past_within rows s i j le = go (past_at rows s i) refl le
  where
    go : (v : ℕ) → past_at rows s i ≡ v → suc j ≤ v → IsWithinRows (row_value rows) (over s i j)
    go zero e l = absurd (omega arith)
    go (suc k) e l = (k, past_some (row_value rows s i) k e, omega arith)

module _ (g : PlainDtd) (n : ℕ) (rows : List Row) (each : EachRow (IsRow g n) rows) where
  -- the rows of a word: what one of them has at a place
  pub record IsValue (s : PlainSite) (i k : ℕ) : Type 0 where
    pub row : Row
    pub is_row_of : row_of_site rows s ≡ Some row
    pub is_row : IsRow g n row
    pub is_site : plain_site row.site ≡ s
    pub is_at : slice_get row.values i ≡ Some k

  value_case : (s : PlainSite) (i k : ℕ) (o : Option Row) → row_of_site rows s ≡ o → option_and_then (λ (r : Row). slice_get r.values i) o ≡ Some k → IsValue s i k
  value_case s i k None e h = absurd cc
  value_case s i k (Some r) e h = let f = row_found rows s r e in record { row = r; is_row_of = e; is_row = each f.place r f.is_there; is_site = f.is_site; is_at = h }

  pub value : (s : PlainSite) (i k : ℕ) → row_value rows s i ≡ Some k → IsValue s i k
  value s i k e = value_case s i k (row_of_site rows s) refl e

  pub value_bounds : (s : PlainSite) (i k : ℕ) → row_value rows s i ≡ Some k → (i ≤ k) × (k ≤ n)
  value_bounds s i k e = let x = value s i k e in x.is_row.rises.bounded i k x.is_at

  -- a site that has a value has one at each later place, which isn't less
  pub value_rises : (s : PlainSite) (i j k : ℕ) → row_value rows s i ≡ Some k → i ≤ j → j ≤ n → (m : ℕ) × (row_value rows s j ≡ Some m) × (k ≤ m)
  value_rises s i j k e le short =
      let x = value s i k e in let l = x.is_row.long in
      let a = slice_get_below x.row.values j (omega arith) in
      (a.0, ap (λ (o : Option Row). option_and_then (λ (r : Row). slice_get r.values j) o) x.is_row_of ∙ a.1, x.is_row.rises.rising i j k a.0 le x.is_at a.1)

  -- one that is told at one place is told at each
  pub past_bounds : (s : PlainSite) (i k : ℕ) → past_at rows s i ≡ suc k → (i ≤ k) × (k ≤ n)
  past_bounds s i k e = value_bounds s i k (past_some (row_value rows s i) k e)
