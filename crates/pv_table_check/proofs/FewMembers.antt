-- The entries of the sites of a kind whose numbers are in a range, and what is asked of each.
use Rattle.std.proofs.Common.{◌≡◌, ◌<◌, ◌≤◌, ◌+◌, ◌⊎◌, ℕ, List, Some, refl, inl, inr, sym, ap, subst, min, length, slice_get, slice_range, get_or, arith, [], ◌∙◌}
use Rattle.std.specs.List.{Contains}
use Rattle.std.proofs.lemmas.Bool.{cases_lt}
use Rattle.pv_rules.specs.Derivations.{heaviest}
use Rattle.pv_rules.specs.PlainForms.{plain_site}
use Rattle.pv_rules.specs.Rules.{Goal, over}
use Rattle.pv_rules.specs.Sites.{PlainSite, content_site, name_site, part_site, rest_site}
use Rattle.pv_tables.specs.TableLaws.{ListedOrNot}
use Rattle.pv_tables.specs.Tables.{Precedes, kind_rank, site_number}
use Rattle.pv_tables.specs.Values.{IsListed, IsUnlisted, listed_value}
use Rattle.pv_tables.specs.declared.tables.Entry.{Entry}
use Rattle.pv_table_check.specs.ClosedForms.{WeighsAsTwo}
use Rattle.pv_table_check.specs.Lookup.{AreAscendingEntries}
use Rattle.pv_table_check.specs.Members.{AreLeast, AreMembers, IsMemberSite, IsNoMore}
use Rattle.pv_table_check.specs.Sums.{AreNoLess, IsNoLess}
use Rattle.pv_table_check.specs.declared.sums.Pair.{Pair}
use Rattle.pv_table_check.proofs.ClosedSites.{by_items, is_light, item_contained}
use Rattle.pv_table_check.proofs.EntryOrder.{at_contains, contains_at, own_value}
use Rattle.pv_table_check.proofs.LikeEntries.{contains_range, range_contains}

-- the first entry that a site may have
module _ (low high : PlainSite) (kind : kind_rank low ≡ kind_rank high) (first behind e : Entry) (one : plain_site first.site ≡ low) (other : plain_site behind.site ≡ high)
    (from : first.from ≡ 0) (to : first.to ≡ 0) (from_too : behind.from ≡ 0) (to_too : behind.to ≡ 0) where
  pub is_member : (Precedes e first → ⊥) → Precedes e behind → IsMemberSite low high (plain_site e.site)
  is_member not before = (same_kind, no_less, less before)
    where
      rank : kind_rank (plain_site first.site) ≡ kind_rank low
      rank = ap kind_rank one

      rank_too : kind_rank (plain_site behind.site) ≡ kind_rank high
      rank_too = ap kind_rank other

      number : site_number (plain_site first.site) ≡ site_number low
      number = ap site_number one

      number_too : site_number (plain_site behind.site) ≡ site_number high
      number_too = ap site_number other

      no_more : Precedes e behind → kind_rank (plain_site e.site) ≤ kind_rank low
      no_more (inl x) = let r = rank_too in omega arith
      no_more (inr (x, y)) = let r = rank_too in omega arith

      same_kind : kind_rank (plain_site e.site) ≡ kind_rank low
      same_kind = by_case (cases_lt (kind_rank (plain_site e.site)) (kind_rank low))
        where
          by_case : (kind_rank (plain_site e.site) < kind_rank low) ⊎ (kind_rank low ≤ kind_rank (plain_site e.site)) → kind_rank (plain_site e.site) ≡ kind_rank low
          by_case (inl x) = absurd (not (inl (let r = rank in omega arith)))
          by_case (inr x) = let n = no_more before in omega arith

      no_less : site_number low ≤ site_number (plain_site e.site)
      no_less = by_case (cases_lt (site_number (plain_site e.site)) (site_number low))
        where
          by_case : (site_number (plain_site e.site) < site_number low) ⊎ (site_number low ≤ site_number (plain_site e.site)) → site_number low ≤ site_number (plain_site e.site)
          by_case (inl x) = absurd (not (inr ((let r = rank in let s = same_kind in omega arith), inl (let n = number in omega arith))))
          by_case (inr x) = x

      less : Precedes e behind → site_number (plain_site e.site) < site_number high
      less (inl x) = let r = rank_too in let s = same_kind in absurd (omega arith)
      less (inr (x, inl y)) = let n = number_too in omega arith
      less (inr (x, inr (y, inl z))) = absurd (omega arith)
      less (inr (x, inr (y, inr (z, inl w)))) = absurd (omega arith)
      less (inr (x, inr (y, inr (z, inr (w, v))))) = absurd v

  pub not_first : IsMemberSite low high (plain_site e.site) → Precedes e first → ⊥
  not_first m (inl x) = let r = ap kind_rank one in let k = m.0 in omega arith
  not_first m (inr (x, inl y)) = let r = ap site_number one in let k = m.1 in omega arith
  not_first m (inr (x, inr (y, inl z))) = omega arith
  not_first m (inr (x, inr (y, inr (z, inl w)))) = omega arith
  not_first m (inr (x, inr (y, inr (z, inr (w, v))))) = v

  pub is_before : IsMemberSite low high (plain_site e.site) → Precedes e behind
  is_before m = inr ((let r = ap kind_rank other in let k = m.0 in omega arith), inl (let r = ap site_number other in let k = m.2 in omega arith))

-- the entries of members stand from the first place up to the other
module _ (low high : PlainSite) (kind : kind_rank low ≡ kind_rank high) (es : List Entry) (first behind : Entry) (one : plain_site first.site ≡ low) (other : plain_site behind.site ≡ high)
    (from : first.from ≡ 0) (to : first.to ≡ 0) (from_too : behind.from ≡ 0) (to_too : behind.to ≡ 0) (start end : ℕ) (within : end ≤ length es)
    (before : (k : ℕ) (e : Entry) → k < start → slice_get es k ≡ Some e → Precedes e first)
    (not_before : (k : ℕ) (e : Entry) → start ≤ k → slice_get es k ≡ Some e → Precedes e first → ⊥)
    (up : (k : ℕ) (e : Entry) → k < end → slice_get es k ≡ Some e → Precedes e behind)
    (not_up : (k : ℕ) (e : Entry) → end ≤ k → slice_get es k ≡ Some e → Precedes e behind → ⊥) where
  place_of_member : (e : Entry) → IsMemberSite low high (plain_site e.site) → (k : ℕ) → slice_get es k ≡ Some e → (start ≤ k) × (k < end)
  place_of_member e m k at = (from_start (cases_lt k start), to_end (cases_lt k end))
    where
      from_start : (k < start) ⊎ (start ≤ k) → start ≤ k
      from_start (inl x) = absurd (not_first low high kind first behind e one other from to from_too to_too m (before k e x at))
      from_start (inr x) = x

      to_end : (k < end) ⊎ (end ≤ k) → k < end
      to_end (inl x) = x
      to_end (inr x) = absurd (not_up k e x at (is_before low high kind first behind e one other from to from_too to_too m))

  pub no_members : end ≤ start → AreMembers es low high []
  no_members none = record {
    are = λ e m. absurd (no_item e m);
    least = λ e m is. let c = contains_at es e m in let p = place_of_member e is c.0 c.1 in absurd (let x = p.0 in let y = p.1 in omega arith);
  }
    where
      no_item : (e : Entry) → Contains [] e → ⊥
      no_item e (k, l, h) = omega (arith, l)

  pub all_members : start ≤ end → AreMembers es low high (slice_range es start end)
  all_members rise = record {
    are = λ e m. let f = contains_range es start end e within rise m in
        (at_contains es e f.0 f.3, is_member low high kind first behind e one other from to from_too to_too (not_before f.0 e f.1 f.3) (up f.0 e f.2 f.3));
    least = λ e m is. let c = contains_at es e m in let p = place_of_member e is c.0 c.1 in
        (e, range_contains es start end c.0 e within p.0 p.1 c.1, (refl, refl, omega arith));
  }

-- what has the least values of members has them where it is made fewer
pub fewer_members : (es : List Entry) (low high : PlainSite) (all found : List Entry) → AreMembers es low high all → AreLeast all found → AreMembers es low high found
fewer_members es low high all found a l = record {
  are = λ e m. a.are e (l.are e m);
  least = λ e m is. let f = a.least e m is in let g = l.least f.0 f.1 in let x = f.2 in let y = g.2 in (g.0, g.1, (y.0 ∙ x.0, y.1 ∙ x.1, (let p = x.2 in let q = y.2 in omega arith)));
}

module _ (cases : ListedOrNot) (es : List Entry) (o : AreAscendingEntries es) (p : Pair) where
  -- what is asked of an entry is so of one of the same span and no lesser value
  less_of : (e l : Entry) → IsNoMore e l → IsNoLess es p l → IsNoLess es p e
  less_of e l n h outer j inner =
      let f = n.0 in let t = n.1 in let v = n.2 in
      let x = h (λ out. let lt = outer out in omega arith) j (λ i. let lt = inner i in omega arith) in
      let y = subst (λ k. listed_value es (over (plain_site p.left) k j) ≤ min heaviest (l.value + listed_value es (over (plain_site p.second) l.to j))) f x in
      let z = subst (λ k. listed_value es (over (plain_site p.left) e.from j) ≤ min heaviest (l.value + listed_value es (over (plain_site p.second) k j))) t y in
      omega arith

  module _ (low high : PlainSite) (found : List Entry) (a : AreMembers es low high found) where
    abbrev Each : Type 0
    Each = (s : PlainSite) → IsMemberSite low high s → WeighsAsTwo es (plain_site p.left) s (plain_site p.second) p.outer p.inner

    pub each_member : AreNoLess es p found → Each
    each_member h s is i k j outer inner = by_case (cases es (over s i k))
      where
        by_case : IsListed es (over s i k) ⊎ IsUnlisted es (over s i k) →
            listed_value es (over (plain_site p.left) i j) ≤ min heaviest (listed_value es
            (over s i k) + listed_value es (over (plain_site p.second) k j))
        by_case (inl (e, m, g, v)) =
            let site : plain_site e.site ≡ s = ap (λ (x : Goal). x.site) g in
            let f : e.from ≡ i = ap (λ (x : Goal). x.from) g in
            let t : e.to ≡ k = ap (λ (x : Goal). x.to) g in
            let l = a.least e m (subst (λ (x : PlainSite). IsMemberSite low high x) (sym site) is) in
            let own = less_of e l.0 l.2 (by_items (IsNoLess es p) found h l.0 l.1) in
            let x = own (λ out. let lt = outer out in omega arith) j (λ n. let lt = inner n in omega arith) in
            let y = subst (λ n. listed_value es (over (plain_site p.left) n j) ≤ min heaviest (e.value + listed_value es (over (plain_site p.second) e.to j))) f x in
            let z = subst (λ n. listed_value es (over (plain_site p.left) i j) ≤ min heaviest (e.value + listed_value es (over (plain_site p.second) n j))) t y in
            subst (λ n. listed_value es (over (plain_site p.left) i j) ≤ min heaviest (n + listed_value es (over (plain_site p.second) k j))) (sym v) z
        by_case (inr (v, none)) = let y = is_light cases es o (over (plain_site p.left) i j) in omega arith

    pub by_members : Each → AreNoLess es p found
    by_members h k d lt outer j inner =
        let e = get_or found k d in
        let m = a.are e (item_contained found k d lt) in
        let x = h (plain_site e.site) m.1 e.from e.to j outer inner in
        subst (λ n. listed_value es (over (plain_site p.left) e.from j) ≤ min heaviest (n + listed_value es (over (plain_site p.second) e.to j))) (own_value es o.ascend cases e m.0) x

-- the sites between two names are names, and so with parts
pub member_name : (n m : ℕ) (s : PlainSite) → IsMemberSite (name_site n) (name_site m) s → (y : ℕ) × (s ≡ name_site y) × (y < m)
member_name n m (content_site x) is = let k = is.0 in absurd (omega arith)
member_name n m (name_site x) is = (x, refl, is.2)
member_name n m (part_site x) is = let k = is.0 in absurd (omega arith)
member_name n m (rest_site x) is = let k = is.0 in absurd (omega arith)

pub member_part : (n m : ℕ) (s : PlainSite) → IsMemberSite (part_site n) (part_site m) s → (q : ℕ) × (s ≡ part_site q) × (n ≤ q) × (q < m)
member_part n m (content_site x) is = let k = is.0 in absurd (omega arith)
member_part n m (name_site x) is = let k = is.0 in absurd (omega arith)
member_part n m (part_site x) is = (x, refl, is.1, is.2)
member_part n m (rest_site x) is = let k = is.0 in absurd (omega arith)
