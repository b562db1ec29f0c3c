-- What is closed under the rules of a form, over entries that are over a word.
use Rattle.std.proofs.Common.{Bool, List, Some, [], arith, inl, inr, length, min, slice_get, suc, true, ℕ, ◌+◌, ◌<◌, ◌∷◌, ◌≡◌, ◌≤◌, ◌⊎◌}
use Rattle.std.proofs.Common.{ap, subst}
use Rattle.std.proofs.lemmas.List.Elements.{All-contains, All-weaker}
use Rattle.pv_model.specs.Plain.{PlainToken, text}
use Rattle.pv_dtd.specs.Plain.{PlainDtd}
use Rattle.pv_rules.specs.Derivations.{heaviest, sum_of}
use Rattle.pv_rules.specs.Rules.{Goal, IsSpan, over}
use Rattle.pv_rules.specs.Sites.{HasSite, PlainSite, content_site}
use Rattle.pv_tables.specs.TableLaws.{ListedOrNot}
use Rattle.pv_tables.specs.Values.{IsListed, IsUnlisted, listed_value}
use Rattle.pv_tables.specs.declared.tables.Entry.{Entry}
use Rattle.pv_table_check.specs.ClosedEntries.{AreOver, IsEntryOver}
use Rattle.pv_table_check.specs.ClosedForms.{WeighsAsBehindText, WeighsAsOne, WeighsAsTwo, WeighsNothing}
use Rattle.pv_table_check.specs.Lookup.{AreAscendingEntries}
use Rattle.pv_table_check.proofs.ClosedSites.{is_light}

module _ (cases : ListedOrNot) (g : PlainDtd) (w : List PlainToken) (es : List Entry) (are : AreOver g w es) where
  pub in_order : AreAscendingEntries es
  in_order = record { ascend = are.ascend; light = All-weaker (IsEntryOver g w) (λ e. e.value < heaviest) (λ e o. o.light) es are.each }

  light : (x : Goal) → listed_value es x ≤ heaviest
  light x = is_light cases es in_order x

  -- what weighs less than the cut is a site of the DTD over a span
  pub known_or_heavy : (s : PlainSite) (i j : ℕ) → (HasSite g s × IsSpan w i j) ⊎ (listed_value es (over s i j) ≡ heaviest)
  known_or_heavy s i j = by_case (cases es (over s i j))
    where
      by_case : IsListed es (over s i j) ⊎ IsUnlisted es (over s i j) → (HasSite g s × IsSpan w i j) ⊎ (listed_value es (over s i j) ≡ heaviest)
      by_case (inl (e, m, q, v)) =
          let o = All-contains (IsEntryOver g w) es e are.each m in
          let f : e.from ≡ i = ap (λ (x : Goal). x.from) q in
          let t : e.to ≡ j = ap (λ (x : Goal). x.to) q in
          inl (subst (HasSite g) (ap (λ (x : Goal). x.site) q) o.is_site, subst (λ k. IsSpan w k j) f (subst (λ k. IsSpan w e.from k) t o.is_span))
      by_case (inr (v, none)) = inr v

  abbrev pub Led : PlainSite → ℕ → ℕ → ℕ → List Goal → Type 0
  Led s i j c xs = listed_value es (over s i j) ≤ min heaviest (c + sum_of (listed_value es) xs)

  module _ (s : PlainSite) where
    -- ---- nothing
    pub none_to : WeighsNothing es s (length w) → (i j c : ℕ) (xs : List Goal) → i ≡ j → j ≤ length w → c ≡ 0 → xs ≡ [] → Led s i j c xs
    none_to h i j c xs e l z n = let v = h j l in rw (e, z, n) (omega arith)

    pub none_from : ((i : ℕ) → i ≤ length w → Led s i i 0 []) → WeighsNothing es s (length w)
    none_from h i l = let v = h i l in omega arith

    -- ---- one site
    module _ (r : PlainSite) (k : ℕ) where
      pub one_to : WeighsAsOne es s r k → (i j c : ℕ) (xs : List Goal) → c ≡ k → xs ≡ over r i j ∷ [] → Led s i j c xs
      one_to h i j c xs z n = let v = h i j in rw (z, n) (omega arith)

      pub one_from : ((i j : ℕ) → IsSpan w i j → Led s i j k (over r i j ∷ [])) → WeighsAsOne es s r k
      one_from h i j = by_case (known_or_heavy r i j)
        where
          by_case : (HasSite g r × IsSpan w i j) ⊎ (listed_value es (over r i j) ≡ heaviest) → listed_value es (over s i j) ≤ min heaviest (k + listed_value es (over r i j))
          by_case (inl (has, span)) = let v = h i j span in omega arith
          by_case (inr v) = let l = light (over s i j) in omega arith

    -- ---- two sites
    module _ (a b : PlainSite) (outer inner : Bool) where
      pub two_to : WeighsAsTwo es s a b outer inner → (i k j c : ℕ) (xs : List Goal) → (outer ≡ true → i < k) → (inner ≡ true → k < j) → c ≡ 0 → xs ≡ over a i k ∷ over b k j ∷ [] → Led s i j c xs
      two_to h i k j c xs o n z e = let v = h i k j o n in rw (z, e) (omega arith)

      pub two_from : ((i k j : ℕ) → (outer ≡ true → i < k) → (inner ≡ true → k < j) → i ≤ k → k ≤ j → j ≤ length w → Led s i j 0 (over a i k ∷ over b k j ∷ [])) → WeighsAsTwo es s a b outer inner
      two_from h i k j o n = by_case (known_or_heavy a i k) (known_or_heavy b k j)
        where
          by_case : (HasSite g a × IsSpan w i k) ⊎ (listed_value es (over a i k) ≡ heaviest) → (HasSite g b × IsSpan w k j) ⊎ (listed_value es (over b k j) ≡ heaviest) →
              listed_value es (over s i j) ≤ min heaviest (listed_value es (over a i k) + listed_value es (over b k j))
          by_case (inl (has, span)) (inl (also, behind)) = let v = h i k j o n span.0 behind.0 behind.1 in omega arith
          by_case (inl (has, span)) (inr v) = let l = light (over s i j) in omega arith
          by_case (inr v) m = let l = light (over s i j) in omega arith

  -- ---- after a text
  module _ (x : ℕ) where
    pub text_to : WeighsAsBehindText es w x → (i j c : ℕ) (xs : List Goal) → slice_get w i ≡ Some text → c ≡ 0 → xs ≡ over (content_site x) (suc i) j ∷ [] → Led (content_site x) i j c xs
    text_to h i j c xs at z n = let v = h i j at in rw (z, n) (omega arith)

    pub text_from : ((i j : ℕ) → i < j → j ≤ length w → slice_get w i ≡ Some text → Led (content_site x) i j 0 (over (content_site x) (suc i) j ∷ [])) → WeighsAsBehindText es w x
    text_from h i j at = by_case (known_or_heavy (content_site x) (suc i) j)
      where
        by_case : (HasSite g (content_site x) × IsSpan w (suc i) j) ⊎ (listed_value es (over (content_site x) (suc i) j) ≡ heaviest) →
            listed_value es (over (content_site x) i j) ≤ min heaviest (listed_value es (over (content_site x) (suc i) j))
        by_case (inl (has, span)) = let v = h i j (let l = span.0 in omega arith) span.1 at in omega arith
        by_case (inr v) = let l = light (over (content_site x) i j) in omega arith
