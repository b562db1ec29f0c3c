-- The rows that furthest places tell are the rows of furthest places.
use Rattle.std.specs.Prelude.{IsSome}
use Rattle.std.proofs.Common.{List, None, Option, Some, [], ap, arith, inl, inr, length, map, refl, slice_get, subst, suc, sym, ℕ, ◌*◌, ◌++◌, ◌<◌, ◌∙◌, ◌∷◌, ◌≡◌, ◌≤◌, ◌⊎◌}
use Rattle.std.specs.Option.{option_map}
use Rattle.std.proofs.lemmas.Option.{slice_get-map, slice_get_within}
use Rattle.pv_model.specs.Plain.{PlainToken}
use Rattle.pv_dtd.specs.Plain.{PlainDtd}
use Rattle.pv_dtd.specs.Proper.{IsProperDtd}
use Rattle.pv_rules.specs.SiteDerivations.{DerivesAt}
use Rattle.pv_rules.specs.PlainForms.{plain_site}
use Rattle.pv_rules.specs.Sites.{HasSite, PlainSite, content_site, name_site, part_site, rest_site}
use Rattle.pv_rules.specs.declared.sites.Site.{Site}
use Rattle.pv_missing.specs.LiveWords.{AreProductiveTokens}
use Rattle.pv_tables.specs.Tables.{kind_rank}
use Rattle.pv_reach.specs.FurthestEnds.{AreReaches, IsGreatestEnd, end_told}
use Rattle.pv_reach.specs.Laws.{SpansWithin}
use Rattle.pv_reach.specs.declared.reaches.Reaches.{Reaches}
use Rattle.pv_denial.specs.Rows.{EachRow, IsSiteBefore, most_values, values_in}
use Rattle.pv_denial.specs.declared.denials.Row.{Row}
use Rattle.pv_deny.specs.DocumentDenials.{AreDerivingSites, AreFurthestRows, DerivesSome}
use Rattle.pv_deny.specs.DocumentDenials.{IsFurthestRow}
use Rattle.pv_deny.specs.ToldRows.{AreToldRows, AreToldSites, IsBelow, IsToldRow, IsTold}
use Rattle.pv_denial.proofs.Lists.{front_or_end}
use Rattle.pv_denial.proofs.SiteRows.{slice_get_below}

-- rows of so many values each
pub values_in_rows : (rows : List Row) (n : ℕ) → EachRow (λ r. length r.values ≡ n) rows → values_in rows ≡ length rows * n
values_in_rows [] n each = omega arith
values_in_rows (r ∷ rows) n each =
    let first = each 0 r refl in
    let others = values_in_rows rows n (λ k. each (suc k)) in
    omega (arith, first, others)

small_rank : (s : PlainSite) → kind_rank s < 4
small_rank (content_site x) = omega arith
small_rank (name_site x) = omega arith
small_rank (part_site q) = omega arith
small_rank (rest_site q) = omega arith

some_told : (o : Option ℕ) → IsSome o → (j : ℕ) × (o ≡ Some j)
some_told None h = cc
some_told (Some j) h = (j, refl)

module _ (spans : SpansWithin) (g : PlainDtd) (w : List PlainToken) (r : Reaches) (proper : IsProperDtd g) (productive : AreProductiveTokens g w) (are : AreReaches g w r) where
  greatest : (s : PlainSite) (i j : ℕ) → HasSite g s → i ≤ length w → end_told r s i ≡ Some j → IsGreatestEnd g w s i (Some j)
  greatest s i j has le e = subst (IsGreatestEnd g w s i) e (are.ends s i has le)

  pub derives_told : (s : PlainSite) → IsTold g r s → DerivesSome g w s
  derives_told s told = let j = some_told (end_told r s 0) told.1 in (0, j.0, (greatest s 0 j.0 told.0 (omega arith) j.1).0)

  some_end : (s : PlainSite) (i : ℕ) (o : Option ℕ) → IsGreatestEnd g w s i o → DerivesAt g w s i i → IsSome o
  some_end s i None none d = absurd (none i d)
  some_end s i (Some j) h d = refl

  -- what derives something derives no tokens at each place
  pub told_everywhere : (s : PlainSite) (i : ℕ) → HasSite g s → DerivesSome g w s → i ≤ length w → IsSome (end_told r s i)
  told_everywhere s i has (a, b, d) le = some_end s i (end_told r s i) (are.ends s i has le) (spans g w proper productive s a b i i d (omega arith) le (inl refl))

  pub told_derives : (s : PlainSite) → HasSite g s → DerivesSome g w s → IsTold g r s
  told_derives s has d = (has, told_everywhere s 0 has d (omega arith))

  module _ (sites : List Site) (all : AreToldSites g r 4 0 sites) where
    is_below : (s : PlainSite) → IsBelow 4 0 s
    is_below s = inl (small_rank s)

    pub told_each : (k i : ℕ) (s : Site) → slice_get sites k ≡ Some s → i ≤ length w → IsSome (end_told r (plain_site s) i)
    told_each k i s e le = let o = (all.each k s e).0 in told_everywhere (plain_site s) i o.0 (derives_told (plain_site s) o) le

    -- the sites by themselves
    mapped : (k : ℕ) (s : PlainSite) (o : Option Site) → slice_get sites k ≡ o → slice_get (map plain_site sites) k ≡ Some s → (t : Site) × (slice_get sites k ≡ Some t) × (plain_site t ≡ s)
    mapped k s None e f = let m : slice_get (map plain_site sites) k ≡ None = slice_get-map plain_site sites k ∙ ap (λ v. option_map plain_site v) e in absurd cc
    mapped k s (Some t) e f = let m : slice_get (map plain_site sites) k ≡ Some (plain_site t) = slice_get-map plain_site sites k ∙ ap (λ v. option_map plain_site v) e in (t, e, cc)

    at : (k : ℕ) (s : PlainSite) → slice_get (map plain_site sites) k ≡ Some s → (t : Site) × (slice_get sites k ≡ Some t) × (plain_site t ≡ s)
    at k s e = mapped k s (slice_get sites k) refl e

    pub deriving_sites : AreDerivingSites g w (map plain_site sites)
    deriving_sites = record {
      each = λ k s e.
          let t = at k s e in let o = (all.each k t.0 t.1).0 in
          let P : PlainSite → Type 0 = λ v. HasSite g v × DerivesSome g w v in
          subst P t.2 (o.0, derives_told (plain_site t.0) o);
      ascend = λ j k a b lt e f.
          let s = at j a e in let t = at k b f in
          let P : PlainSite → Type 0 = λ v. IsSiteBefore v b in let Q : PlainSite → Type 0 = λ v. IsSiteBefore (plain_site s.0) v in
          subst P s.2 (subst Q t.2 (all.ascend j k s.0 t.0 lt s.1 t.1));
      all = λ s has d.
          let t = all.all s (told_derives s has d) (is_below s) in
          (t.0, slice_get-map plain_site sites t.0 ∙ ap (λ v. option_map plain_site v) t.2 ∙ ap (λ v. Some v) t.3);
    }

    module _ (rows : List Row) (of : AreToldRows r (length w) sites rows) where
      site_at : (k : ℕ) (row : Row) → slice_get rows k ≡ Some row → (s : Site) × (slice_get sites k ≡ Some s)
      site_at k row e = let n = slice_get_within rows k row e in slice_get_below sites k (let m = of.as_many in omega arith)

      row_at : (k : ℕ) (s : Site) → slice_get sites k ≡ Some s → (row : Row) × (slice_get rows k ≡ Some row)
      row_at k s e = let n = slice_get_within sites k s e in slice_get_below rows k (let m = of.as_many in omega arith)

      row_of_site : (s : Site) (row : Row) → IsTold g r (plain_site s) → IsToldRow r (length w) s row → IsFurthestRow g w row
      row_of_site s row told is =
          let P : Site → Type 0 = λ v. HasSite g (plain_site v) × DerivesSome g w (plain_site v) in
          let p = subst P (sym is.is_site) (told.0, derives_told (plain_site s) told) in
          record {
            has = p.0;
            derives = p.1;
            long = is.long;
            ends = λ i v e.
                let n = slice_get_within row.values i v e in let l = is.long in
                let Q : Site → Type 0 = λ u. IsGreatestEnd g w (plain_site u) i (Some v) in
                subst Q (sym is.is_site) (greatest (plain_site s) i v told.0 (omega arith) (is.told i v e));
          }

      pub furthest_rows : AreFurthestRows g w rows
      furthest_rows = record {
        each = λ k row e. let s = site_at k row e in row_of_site s.0 row (all.each k s.0 s.1).0 (of.each k s.0 row s.1 e);
        ascend = λ j k a b lt e f.
            let s = site_at j a e in let t = site_at k b f in
            let x = (of.each j s.0 a s.1 e).is_site in let y = (of.each k t.0 b t.1 f).is_site in
            let P : Site → Type 0 = λ v. IsSiteBefore (plain_site v) (plain_site b.site) in let Q : Site → Type 0 = λ v. IsSiteBefore (plain_site s.0) (plain_site v) in
            subst P (sym x) (subst Q (sym y) (all.ascend j k s.0 t.0 lt s.1 t.1));
        all = λ s has d.
            let t = all.all s (told_derives s has d) (is_below s) in let row = row_at t.0 t.1 t.2 in
            (t.0, row.0, row.1, ap plain_site (of.each t.0 t.1 row.0 t.2 row.1).is_site ∙ t.3);
      }

      pub few_values : length sites * suc (length w) ≤ most_values → values_in rows ≤ most_values
      few_values few =
          let n = values_in_rows rows (suc (length w)) (λ k row e. let s = site_at k row e in (of.each k s.0 row s.1 e).long) in
          let m : values_in rows ≡ length sites * suc (length w) = n ∙ ap (λ k. k * suc (length w)) of.as_many in
          omega arith

-- a row more, of the next site
pub row_more : (r : Reaches) (n : ℕ) (sites : List Site) (rows : List Row) (s : Site) (row : Row) (i : ℕ) → length rows ≡ i → slice_get sites i ≡ Some s → IsToldRow r n s row →
    ((k : ℕ) (t : Site) (q : Row) → slice_get sites k ≡ Some t → slice_get rows k ≡ Some q → IsToldRow r n t q) →
    (k : ℕ) (t : Site) (q : Row) → slice_get sites k ≡ Some t → slice_get (rows ++ row ∷ []) k ≡ Some q → IsToldRow r n t q
row_more r n sites rows s row i size here is each k t q e f = by (front_or_end rows row k q f)
  where
    by : (slice_get rows k ≡ Some q) ⊎ ((k ≡ length rows) × (row ≡ q)) → IsToldRow r n t q
    by (inl g) = each k t q e g
    by (inr (last, same)) =
        let P : ℕ → Type 0 = λ v. slice_get sites v ≡ Some t in
        let there = subst P (last ∙ size) e in
        let site : s ≡ t = cc in
        let Q : Site → Type 0 = λ v. IsToldRow r n v q in
        subst Q site (subst (IsToldRow r n s) same is)
