-- The entries of a site, or those of them that begin at one place.
use Rattle.std.proofs.Common.{◌≡◌, ◌<◌, ◌≤◌, ◌+◌, ◌-◌, ◌⊎◌, Bool, true, false, ℕ, List, Some, refl, inl, inr, sym, ◌∙◌, ap, subst, length, slice_get}
use Rattle.std.proofs.Common.{slice_range, get_or, drop, length-drop, length-take-le, arith}
use Rattle.std.specs.List.{AllPairs, Contains}
use Rattle.std.proofs.lemmas.Bool.{cases_lt}
use Rattle.std.proofs.lemmas.List.{get_or-drop, get_or-take}
use Rattle.std.proofs.lemmas.Option.{get_or_from_slice_get, slice_get-get_or, slice_get_within}
use Rattle.pv_rules.specs.PlainForms.{plain_site}
use Rattle.pv_tables.specs.TableLaws.{SitesAreTold}
use Rattle.pv_tables.specs.Tables.{Precedes, kind_rank, site_number}
use Rattle.pv_tables.specs.declared.tables.Entry.{Entry}
use Rattle.pv_table_check.specs.Lookup.{AreLike, IsLeastProbe, IsLike}
use Rattle.pv_table_check.proofs.EntryOrder.{at_contains, contains_at, in_order}

-- what stands between a least probe and an entry that is like it is like it too
module _ (told : SitesAreTold) (anywhere : Bool) (probe d e : Entry) (least : IsLeastProbe anywhere
    probe) (behind : Precedes d probe → ⊥) (before : Precedes d e) (like : IsLike anywhere probe e) where
  rank : kind_rank (plain_site e.site) ≡ kind_rank (plain_site probe.site)
  rank = ap kind_rank like.same_site

  number : site_number (plain_site e.site) ≡ site_number (plain_site probe.site)
  number = ap site_number like.same_site

  same_rank : kind_rank (plain_site d.site) ≡ kind_rank (plain_site probe.site)
  same_rank = by_case before (cases_lt (kind_rank (plain_site d.site)) (kind_rank (plain_site probe.site)))
    where
      by_case : Precedes d e → (kind_rank (plain_site d.site) < kind_rank (plain_site probe.site))
          ⊎ (kind_rank (plain_site probe.site) ≤ kind_rank (plain_site d.site)) →
          kind_rank (plain_site d.site) ≡ kind_rank (plain_site probe.site)
      by_case b (inl less) = absurd (behind (inl less))
      by_case (inl b) (inr more) = let r = rank in absurd (omega arith)
      by_case (inr (b, c)) (inr more) = b ∙ rank

  same_number : site_number (plain_site d.site) ≡ site_number (plain_site probe.site)
  same_number = by_case before (cases_lt (site_number (plain_site d.site)) (site_number (plain_site probe.site)))
    where
      by_case : Precedes d e →
          (site_number (plain_site d.site) < site_number (plain_site probe.site))
          ⊎ (site_number (plain_site probe.site) ≤ site_number (plain_site d.site)) →
          site_number (plain_site d.site) ≡ site_number (plain_site probe.site)
      by_case b (inl less) = absurd (behind (inr (same_rank, inl less)))
      by_case (inl b) (inr more) = let r = rank in let s = same_rank in absurd (omega arith)
      by_case (inr (b, inl c)) (inr more) = let r = number in absurd (omega arith)
      by_case (inr (b, inr (c, x))) (inr more) = c ∙ number

  same_from : anywhere ≡ false → d.from ≡ probe.from
  same_from h = by_case before (cases_lt d.from probe.from)
    where
      by_case : Precedes d e → (d.from < probe.from) ⊎ (probe.from ≤ d.from) → d.from ≡ probe.from
      by_case b (inl less) = absurd (behind (inr (same_rank, inr (same_number, inl less))))
      by_case (inl b) (inr more) = let r = rank in let s = same_rank in absurd (omega arith)
      by_case (inr (b, inl c)) (inr more) = let r = number in let s = same_number in absurd (omega arith)
      by_case (inr (b, inr (c, inl x))) (inr more) = let f = like.same_from h in absurd (omega arith)
      by_case (inr (b, inr (c, inr (x, y)))) (inr more) = x ∙ like.same_from h

  pub between : IsLike anywhere probe d
  between = record { same_site = told (plain_site d.site) (plain_site probe.site) same_rank same_number; same_from = same_from }

-- what is like a least probe doesn't precede it
pub like_behind : (anywhere : Bool) (probe e : Entry) → IsLeastProbe anywhere probe → IsLike anywhere probe e → Precedes e probe → ⊥
like_behind anywhere probe e least like (inl b) = let r = ap kind_rank like.same_site in omega arith
like_behind anywhere probe e least like (inr (b, inl c)) = let r = ap site_number like.same_site in omega arith
like_behind true probe e least like (inr (b, inr (c, inl x))) = let r = least.begins refl in omega arith
like_behind false probe e least like (inr (b, inr (c, inl x))) = let r = like.same_from refl in omega arith
like_behind anywhere probe e least like (inr (b, inr (c, inr (x, inl y)))) = let r = least.ends in omega arith
like_behind anywhere probe e least like (inr (b, inr (c, inr (x, inr (y, z))))) = z

-- ---- the items of a range
module _ {X : Type 0} where
  range_get : (xs : List X) (i j k : ℕ) (x : X) → j ≤ length xs → k < j - i → get_or (slice_range xs i j) k x ≡ get_or xs (i + k) x
  range_get xs i j k x within lt = get_or-take (j - i) (drop i xs) k x lt ∙ get_or-drop i xs k x

  pub range_contains : (xs : List X) (i j k : ℕ) (x : X) → j ≤ length xs → i ≤ k → k < j → slice_get xs k ≡ Some x → Contains (slice_range xs i j) x
  range_contains xs i j k x within le lt at =
      let e = range_get xs i j (k - i) x within (omega arith) in
      let f = get_or_from_slice_get xs k x x at in
      let g : i + (k - i) ≡ k = omega arith in
      (k - i, omega (arith, length-take-le (j - i) (drop i xs) (omega (arith, length-drop i xs)), length-drop i xs), e ∙ (rw g f))

  pub contains_range : (xs : List X) (i j : ℕ) (x : X) → j ≤ length xs → i ≤ j → Contains (slice_range xs i j) x → (k : ℕ) × (i ≤ k) × (k < j) × (slice_get xs k ≡ Some x)
  contains_range xs i j x within le (k, l, e) =
      let few : k < j - i = omega (arith, length-take-le (j - i) (drop i xs) (omega (arith, length-drop i xs))) in
      let g = range_get xs i j k x within few in
      (i + k, omega arith, omega arith, slice_get-get_or xs (i + k) x (omega arith) ∙ ap Some (sym g ∙ e))

-- the items of a range ascend as all do
pub range_ascends : {X : Type 0} (R : X → X → Type 0) (xs : List X) → AllPairs R xs → (i j : ℕ) → i ≤ j → j ≤ length xs → AllPairs R (slice_range xs i j)
range_ascends R xs p i j rise within a b d lt few =
    let short : b < j - i = omega (arith, length-take-le (j - i) (drop i xs) (omega (arith, length-drop i xs))) in
    let one = range_get xs i j a d within (omega arith) in
    let two = range_get xs i j b d within short in
    subst (λ x. R x (get_or (slice_range xs i j) b d)) (sym one) (subst (λ y. R (get_or xs (i + a) d) y) (sym two) (p (i + a) (i + b) d (omega arith) (omega arith)))

-- the entries from one place up to another are like the probe
pub record IsRun (es : List Entry) (anywhere : Bool) (probe : Entry) (start end : ℕ) : Type 0 where
  pub rise : start ≤ end
  pub within : end ≤ length es
  pub like : (k : ℕ) (e : Entry) → start ≤ k → k < end → slice_get es k ≡ Some e → IsLike anywhere probe e

-- what stands between the first place that the probe isn't after and an entry that is like it is like it
pub run_up_to : SitesAreTold → (es : List Entry) (anywhere : Bool) (probe e : Entry) (start end m : ℕ) → AllPairs Precedes es → IsLeastProbe anywhere probe →
    ((k : ℕ) (d : Entry) → start ≤ k → slice_get es k ≡ Some d → Precedes d probe → ⊥) →
    IsRun es anywhere probe start end → end ≤ m → slice_get es m ≡ Some e → IsLike anywhere probe e → IsRun es anywhere probe start (m + 1)
run_up_to told es anywhere probe e start end m p least behind r le at like =
    record { rise = let l = r.rise in omega arith; within = let w = slice_get_within es m e at in omega arith; like = λ k d low less here. by_place k d low less here (cases_lt k m) }
  where
    by_place : (k : ℕ) (d : Entry) → start ≤ k → k < m + 1 → slice_get es k ≡ Some d → (k < m) ⊎ (m ≤ k) → IsLike anywhere probe d
    by_place k d low less here (inl x) = between told anywhere probe d e least (behind k d low here) (in_order es p k m d e here at x) like
    by_place k d low less here (inr x) = let same : k ≡ m = omega arith in let same_entry : e ≡ d = cc in subst (λ (x : Entry). IsLike anywhere probe x) same_entry like

-- so far as it is known which entries are like the probe: from the start up to one place they are, and
-- at another one they aren't
pub record IsRunWithin (es : List Entry) (anywhere : Bool) (probe : Entry) (start end high : ℕ) : Type 0 where
  pub run : IsRun es anywhere probe start end
  pub rise : end ≤ high
  pub within : high ≤ length es
  pub stop : (e : Entry) → slice_get es high ≡ Some e → IsLike anywhere probe e → ⊥

-- where the run ends at an entry that isn't like the probe, or at the last one, it has all that are
pub run_all : SitesAreTold → (es : List Entry) (anywhere : Bool) (probe : Entry) (start end : ℕ) → AllPairs Precedes es → IsLeastProbe anywhere probe →
    ((k : ℕ) (e : Entry) → k < start → slice_get es k ≡ Some e → Precedes e probe) →
    ((k : ℕ) (e : Entry) → start ≤ k → slice_get es k ≡ Some e → Precedes e probe → ⊥) →
    IsRun es anywhere probe start end → (end < length es → (e : Entry) → slice_get es end ≡ Some e → IsLike anywhere probe e → ⊥) →
    AreLike es anywhere probe (slice_range es start end)
run_all told es anywhere probe start end p least before behind r stop = record { like = like; all = λ e m l. by_contained e l (contains_at es e m) }
  where
    like : (e : Entry) → Contains (slice_range es start end) e → Contains es e × IsLike anywhere probe e
    like e m = let f = contains_range es start end e r.within r.rise m in (at_contains es e f.0 f.3, r.like f.0 e f.1 f.2 f.3)

    by_contained : (e : Entry) → IsLike anywhere probe e → (k : ℕ) × (slice_get es k ≡ Some e) → Contains (slice_range es start end) e
    by_contained e l (k, at) = by_start (cases_lt k start) (cases_lt k end)
      where
        by_start : (k < start) ⊎ (start ≤ k) → (k < end) ⊎ (end ≤ k) → Contains (slice_range es start end) e
        by_start (inl x) o = absurd (like_behind anywhere probe e least l (before k e x at))
        by_start (inr x) (inl y) = range_contains es start end k e r.within x y at
        by_start (inr x) (inr y) = absurd (by_end (cases_lt end k))
          where
            w : k < length es
            w = slice_get_within es k e at

            by_end : (end < k) ⊎ (k ≤ end) → ⊥
            by_end (inr z) = let v = w in let same : k ≡ end = omega arith in stop (omega arith) e (subst (λ n. slice_get es n ≡ Some e) same at) l
            by_end (inl z) =
                let v = w in
                let d = get_or es end e in
                let also = slice_get-get_or es end e (omega arith) in
                stop (omega arith) d also (between told anywhere probe d e least (behind end d r.rise also) (in_order es p end k d e also at z) l)
