-- An index takes in row after row, and tells the row of each site.
use Rattle.std.specs.Prelude.{Bool, false, option_and_then, true}
use Rattle.std.proofs.Common.{List, None, Option, Some, ap, arith, inl, inr, length, refl, slice_get, subst, suc, sym, zero, ℕ, ◌<◌, ◌∙◌, ◌≡◌, ◌≢◌, ◌≤◌, ◌⊎◌}
use Rattle.std.proofs.lemmas.Bool.{cases_lt}
use Rattle.std.proofs.lemmas.Option.{slice_get_within}
use Rattle.pv_dtd.specs.Plain.{PlainDtd, parts_in_models}
use Rattle.pv_rules.proofs.Facts.{parts_by_number}
use Rattle.pv_rules.specs.PlainForms.{plain_site}
use Rattle.pv_rules.specs.Sites.{PlainSite, content_site, name_site, part_site, rest_site}
use Rattle.pv_tables.specs.Values.{are_same_sites}
use Rattle.pv_denial.specs.Indexes.{HasPlaceForEach, IsIndex, IsSlot, slot}
use Rattle.pv_denial.specs.RowForms.{one_past, past_at}
use Rattle.pv_denial.specs.Rows.{AreOfOtherSites, EachRow, IsRow, row_of_site}
use Rattle.pv_denial.specs.declared.denials.Row.{Row}
use Rattle.pv_denial.specs.declared.index.Index.{Index}
use Rattle.pv_denial.proofs.PartSites.{part_within, rest_within}
use Rattle.pv_denial.proofs.SiteRows.{other_site, row_found, row_is, same_site}

-- the first rows are rows of a word, no two have one site, and the index has them
pub record AreTaken (g : PlainDtd) (tokens : ℕ) (rows : List Row) (n : ℕ) (ix : Index) : Type 0 where
  pub each : (k : ℕ) (r : Row) → k < n → slice_get rows k ≡ Some r → IsRow g tokens r
  pub once : (j k : ℕ) (q r : Row) → j < k → k < n → slice_get rows j ≡ Some q → slice_get rows k ≡ Some r → plain_site q.site ≢ plain_site r.site
  pub index : IsIndex rows n ix
  pub room : HasPlaceForEach g ix

same_row : (rows : List Row) (k : ℕ) (q r : Row) → slice_get rows k ≡ Some q → slice_get rows k ≡ Some r → q ≡ r
same_row rows k q r a b = cc

module _ (g : PlainDtd) (tokens : ℕ) (rows : List Row) (n : ℕ) (ix : Index) (are : AreTaken g tokens rows n ix) (r : Row) (here : slice_get rows n ≡ Some r) where
  -- no earlier row has the site of this one
  pub none_before : slot ix (plain_site r.site) ≡ 0 → (k : ℕ) (q : Row) → k < n → slice_get rows k ≡ Some q → plain_site q.site ≢ plain_site r.site
  none_before e = let P : ℕ → Type 0 = λ v. IsSlot rows n (plain_site r.site) v in subst P e (are.index (plain_site r.site))

  slot_more : (s : PlainSite) (v : ℕ) → plain_site r.site ≢ s → IsSlot rows n s v → IsSlot rows (suc n) s v
  slot_more s zero ne h = λ k q lt e. elim (cases_lt k n) [
    | inl less ↦ h k q less e
    | inr ge ↦ (let z : k ≡ n = omega arith in let P : ℕ → Type 0 = λ x. slice_get rows x ≡ Some q in let y = same_row rows n r q here (subst P z e) in
        let Q : Row → Type 0 = λ x. plain_site x.site ≢ s in subst Q y ne)
  ]
  slot_more s (suc k) ne (q, lt, e, f) = (q, omega arith, e, f)

  pub taken_more : (new : Index) (next : ℕ) → next ≡ suc n → IsRow g tokens r → slot ix (plain_site r.site) ≡ 0 → slot new (plain_site r.site) ≡ next →
      ((s : PlainSite) → s ≢ plain_site r.site → slot new s ≡ slot ix s) → HasPlaceForEach g new → AreTaken g tokens rows next new
  taken_more new next z is none put others room = record {
    each = λ k q lt e. each_case k q e (cases_lt k n) lt;
    once = λ j k q p less lt a b. once_case j k q p less a b lt (cases_lt k n);
    index = λ s. (let P : ℕ → Type 0 = λ v. IsSlot rows v s (slot new s) in subst P (sym z) (index_case s (are_same_sites (plain_site r.site) s) refl));
    room = room;
  }
    where
      each_case : (k : ℕ) (q : Row) → slice_get rows k ≡ Some q → (k < n) ⊎ (n ≤ k) → k < next → IsRow g tokens q
      each_case k q e (inl less) lt = are.each k q less e
      each_case k q e (inr ge) lt =
          let y : k ≡ n = omega arith in let P : ℕ → Type 0 = λ x. slice_get rows x ≡ Some q in let x = same_row rows n r q here (subst P y e) in
          let Q : Row → Type 0 = λ x. IsRow g tokens x in subst Q x is

      once_case : (j k : ℕ) (q p : Row) → j < k → slice_get rows j ≡ Some q → slice_get rows k ≡ Some p → k < next → (k < n) ⊎ (n ≤ k) → plain_site q.site ≢ plain_site p.site
      once_case j k q p less a b lt (inl before) = are.once j k q p less before a b
      once_case j k q p less a b lt (inr ge) =
          let y : k ≡ n = omega arith in let P : ℕ → Type 0 = λ x. slice_get rows x ≡ Some p in let x = same_row rows n r p here (subst P y b) in
          let Q : Row → Type 0 = λ x. plain_site q.site ≢ plain_site x.site in subst Q x (none_before none j q (omega arith) a)

      index_case : (s : PlainSite) (b : Bool) → are_same_sites (plain_site r.site) s ≡ b → IsSlot rows (suc n) s (slot new s)
      index_case s true e =
          let y = same_site (plain_site r.site) s e in
          let P : PlainSite → Type 0 = λ x. IsSlot rows (suc n) x (slot new x) in
          let Q : ℕ → Type 0 = λ v. IsSlot rows (suc n) (plain_site r.site) v in
          subst P y (subst Q (sym (put ∙ z)) (r, omega arith, here, refl))
      index_case s false e =
          let ne = other_site (plain_site r.site) s e in
          let P : ℕ → Type 0 = λ v. IsSlot rows (suc n) s v in
          subst P (sym (others s (λ y. ne (sym y)))) (slot_more s (slot ix s) ne (are.index s))

  -- where an earlier row has the site, two rows have one site
  pub taken_twice : (v : ℕ) → slot ix (plain_site r.site) ≡ suc v → AreOfOtherSites rows → ⊥
  taken_twice v e others = twice (let P : ℕ → Type 0 = λ x. IsSlot rows n (plain_site r.site) x in subst P e (are.index (plain_site r.site)))
    where
      twice : IsSlot rows n (plain_site r.site) (suc v) → ⊥
      twice (q, lt, a, b) = others v n q r lt a here b

module _ (g : PlainDtd) (tokens : ℕ) (rows : List Row) (n : ℕ) (ix : Index) (are : AreTaken g tokens rows n ix) (all : length rows ≤ n) where
  pub all_each : EachRow (IsRow g tokens) rows
  all_each k r e = are.each k r (let a = slice_get_within rows k r e in omega arith) e

  pub all_once : AreOfOtherSites rows
  all_once j k q r lt a b = are.once j k q r lt (let c = slice_get_within rows k r b in omega arith) a b

-- what the index has tells the row of a site
pub none_listed : (rows : List Row) (s : PlainSite) → IsSlot rows (length rows) s 0 → past_at rows s ≡ (λ i. 0)
none_listed rows s h = go (row_of_site rows s) refl
  where
    go : (o : Option Row) → row_of_site rows s ≡ o → past_at rows s ≡ (λ i. 0)
    go None e = ap (λ (o : Option Row). (λ i. one_past (option_and_then (λ (r : Row). slice_get r.values i) o))) e
    go (Some r) e = let f = row_found rows s r e in absurd (h f.place r (slice_get_within rows f.place r f.is_there) f.is_there f.is_site)

pub row_listed : (rows : List Row) (s : PlainSite) (k i : ℕ) (r : Row) → AreOfOtherSites rows →
    IsSlot rows (length rows) s (suc k) → slice_get rows k ≡ Some r →
    past_at rows s i ≡ one_past (slice_get r.values i)
row_listed rows s k i r once (q, lt, e, f) here =
    let y = same_row rows k q r e here in
    let P : Row → Type 0 = λ x. plain_site x.site ≡ s in
    let x = row_is rows s k r once here (subst P y f) in
    ap (λ (o : Option Row). one_past (option_and_then (λ (r : Row). slice_get r.values i) o)) x

-- an index with a place for each name and each part has room for each site
pub rooms : (g : PlainDtd) (ix : Index) → length ix.names.items ≡ length g.names → length ix.contents.items ≡ length g.names → length ix.parts.items ≡ parts_in_models g.models →
    length ix.rests.items ≡ parts_in_models g.models → HasPlaceForEach g ix
rooms g ix a b c d (name_site x) has = omega arith
rooms g ix a b c d (content_site x) has = omega arith
rooms g ix a b c d (part_site q) has = let lt = part_within g (parts_by_number g) (part_site q) has refl in omega arith
rooms g ix a b c d (rest_site q) has = let lt = rest_within g (parts_by_number g) (rest_site q) has refl in omega arith

pub fresh : (g : PlainDtd) (tokens : ℕ) (rows : List Row) (n : ℕ) (ix : Index) →
    AreTaken g tokens rows n ix → (r : Row) → slice_get rows n ≡ Some r → AreOfOtherSites rows →
    (v : ℕ) → slot ix (plain_site r.site) ≡ v → v ≡ 0
fresh g tokens rows n ix are r here others zero e = refl
fresh g tokens rows n ix are r here others (suc v) e = absurd (taken_twice g tokens rows n ix are r here v e others)
