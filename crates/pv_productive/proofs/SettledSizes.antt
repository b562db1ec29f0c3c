-- A table that is attained, and that the rules lower no more, has the sizes of the names.
use Rattle.std.specs.Prelude.{min}
use Rattle.std.specs.List.{AllByRecursion}
use Rattle.std.specs.Coded.{le_prop}
use Rattle.std.proofs.Common.{List, [], arith, inl, inr, length, refl, suc, ℕ, ◌+◌, ◌<◌, ◌∷◌, ◌≡◌, ◌≤◌}
use Rattle.std.proofs.Math.Logic.{∥∥₁_elim, ∥∥₁_map}
use Rattle.std.proofs.lemmas.Bool.{cases_lt}
use Rattle.pv_dtd.specs.Plain.{PlainDtd}
use Rattle.pv_dtd.specs.Hedge.{AreGood, Fits, Hedge, elements}
use Rattle.pv_dtd.specs.Productive.{IsLeastSize, IsProductive}
use Rattle.pv_rules.specs.Derivations.{IsClosed, IsClosedSet, heaviest, sum_of}
use Rattle.pv_rules.specs.Rules.{Goal, Rule, missing, over}
use Rattle.pv_rules.specs.Sites.{PlainSite, content_site, name_site}
use Rattle.pv_rules.proofs.DerivationLaws.{closed_below, held}
use Rattle.pv_rules.proofs.Spans.{over_spans, small_rules}
use Rattle.pv_dtd.specs.Proper.{IsProperDtd}
use Rattle.pv_productive.specs.Sizes.{IsCutSize}
use Rattle.pv_productive.specs.Tables.{AreSizes, IsAttained, IsSettled, Table, capped, no_size, size_at, size_of, total}
use Rattle.pv_productive.proofs.CutSums.{cut_few}
use Rattle.pv_productive.proofs.GrownHedges.{grown}
use Rattle.pv_productive.proofs.HedgeDerivations.{Nothing, by_one, derived, none_span}
use Rattle.pv_productive.proofs.EmptyWeights.{derivation, weigh}

module _ (g : PlainDtd) (t : Table) (settled : IsSettled g t) where
  -- a rule over no tokens
  lowers_nothing : (s : PlainSite) (i j c : ℕ) (xs : List Goal) → Rule g [] (over s i j) c xs → size_of g t s ≤ capped (c + total g t xs)
  lowers_nothing s i j c xs r =
      let p = (over_spans g [] s i j c xs r).0 in
      let a : i ≡ 0 = let x = p.0 in let y = p.1 in omega arith in
      let b : j ≡ 0 = let y = p.1 in omega arith in
      let h : Rule g [] (over s 0 0) c xs = rw (a, b) at r in settled s c xs h

  abbrev IsFew : Goal → Type 0
  IsFew x = size_of g t x.site ≤ heaviest

  few_total : (c : ℕ) (xs : List Goal) → c ≤ 1 → length xs ≤ 2 → AllByRecursion IsFew xs → c + total g t xs < no_size
  few_total c [] a l f = omega arith
  few_total c (x ∷ []) a l f = let y = f.0 in omega arith
  few_total c (x ∷ y ∷ []) a l f = let z = f.0 in let w = f.1.0 in omega arith
  few_total c (x ∷ y ∷ z ∷ xs) a l f = absurd (omega arith)

  few_closed : IsClosedSet (Rule g []) IsFew
  few_closed x c xs r f =
      let s = small_rules g [] x.site x.from x.to c xs r in
      let l = lowers_nothing x.site x.from x.to c xs r in
      let e = cut_few (c + total g t xs) (few_total c xs s.0 s.1 f) in omega arith

  abbrev cut_size : Goal → ℕ
  cut_size x = min heaviest (size_of g t x.site)

  cut_total : (c : ℕ) (xs : List Goal) → min heaviest (c + sum_of cut_size xs) ≡ min heaviest (c + total g t xs)
  cut_total c [] = refl
  cut_total c (x ∷ xs) = let e = cut_total c xs in omega arith

  sizes_closed : IsClosed (Rule g []) cut_size
  sizes_closed x c xs r =
      let l = lowers_nothing x.site x.from x.to c xs r in
      let e = cut_total c xs in
      elim (cases_lt (c + total g t xs) no_size) [
        | inl lt ↦ (let f = cut_few (c + total g t xs) lt in omega arith)
        | inr ge ↦ omega arith
      ]

  -- what has a derivation has a size, which is no more than that weighs
  pub has_size : (n : ℕ) (s : PlainSite) → Nothing g n s → (size_of g t s ≤ heaviest) × (size_of g t s ≤ n)
  has_size n s d =
      let a = held (Rule g []) IsFew few_closed n (over s 0 0) d in
      let b = closed_below Goal (Rule g []) cut_size sizes_closed n (over s 0 0) d in
      (a, omega arith)

module _ (g : PlainDtd) (r : IsProperDtd g) where
  -- an element of a name, by its content
  of_kids : (y : ℕ) (k : Hedge) → Fits g y k → AreGood g k → (n : ℕ) × (n ≤ suc (elements k)) × Nothing g n (name_site y)
  of_kids y k f a =
      let d = derived g r y k f a in
      (1 + d.0, (let l = d.1 in omega arith), by_one g 1 d.0 (name_site y) (content_site y) (missing y 0 0 (none_span g)) d.2)

  of_derivation : (y n : ℕ) → Nothing g n (name_site y) → (k : Hedge) × Fits g y k × AreGood g k × (n ≡ suc (elements k))
  of_derivation y n d = let h = grown g r n (over (name_site y) 0 0) d in let c = h.2 in (c.0, c.1, c.2, let a = h.1 in let b = c.3 in omega arith)

  pub sizes : (t : Table) → IsAttained g t → IsSettled g t → AreSizes g t.names
  sizes t a s = record { long = a.all_names; some_tree = some_tree; no_tree = no_tree }
    where
      below : (y : ℕ) (k : Hedge) → Fits g y k → AreGood g k → (size_at t.names y ≤ heaviest) × (size_at t.names y ≤ suc (elements k))
      below y k f b = let d = of_kids y k f b in let h = has_size g t s d.0 (name_site y) d.2 in (h.0, let x = h.1 in let l = d.1 in omega arith)

      no_tree : (y : ℕ) → no_size ≤ size_at t.names y → ¬ IsProductive g y
      no_tree y le p = let b = (below y p.kids p.fits p.good).0 in omega arith

      some_tree : (y : ℕ) → size_at t.names y < no_size → IsCutSize g y (size_at t.names y)
      some_tree y lt =
          let d = (a.names y).1 lt in let e = d.2 in let k = of_derivation y d.0 d.1 in
          record {
            productive = record { kids = k.0; fits = k.1; good = k.2 };
            bounded = omega arith;
            reached = λ few. record {
              kids = k.0;
              fits = k.1;
              good = k.2;
              is_size = let z = k.3 in omega arith;
              least = λ h f b. (below y h f b).1;
            };
            least = λ h f b. (below y h f b).1;
          }

  -- what merely is a least size is one
  pub productive_held : (y : ℕ) → ∥ IsProductive g y ∥₁ → IsProductive g y
  productive_held y h =
      let d = derivation g y (∥∥₁_map h (λ p. let o = of_kids y p.kids p.fits p.good in (o.0, o.2))) in
      let k = of_derivation y d.0 d.1 in record { kids = k.0; fits = k.1; good = k.2 }

  module _ (y v : ℕ) (h : ∥ IsCutSize g y v ∥₁) where
    is_bounded : v ≤ heaviest
    is_bounded = ∥∥₁_elim h le_prop (λ c. c.bounded)

    is_least : (k : Hedge) → Fits g y k → AreGood g k → v ≤ suc (elements k)
    is_least k f a = ∥∥₁_elim h le_prop (λ c. c.least k f a)

    is_reached : v < heaviest → IsLeastSize g y v
    is_reached few =
        let w = weigh g (suc v) y in
        let u = w.0 in
        let le : u ≤ v = ∥∥₁_elim h le_prop (λ c. let s = c.reached few in let d = of_kids y s.kids s.fits s.good in let l = w.1.least d.0 d.2 in let z = d.1 in let i = s.is_size in omega arith) in
        let k = of_derivation y u (w.1.reached (omega arith)) in
        record {
          kids = k.0;
          fits = k.1;
          good = k.2;
          is_size = let z = k.3 in let l = is_least k.0 k.1 k.2 in omega arith;
          least = is_least;
        }

    pub size_held : IsCutSize g y v
    size_held = record { productive = productive_held y (∥∥₁_map h (λ c. c.productive)); bounded = is_bounded; reached = is_reached; least = is_least }
