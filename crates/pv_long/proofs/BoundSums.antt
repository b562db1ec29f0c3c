-- Bounds of lists that are added up.
use Rattle.std.proofs.Common.{List, Some, [], ap, arith, length, refl, subst, sym, ℕ, ◌+◌, ◌++◌}
use Rattle.std.proofs.Common.{◌∙◌, ◌∷◌, ◌≡◌}
use Rattle.pv_model.specs.Plain.{PlainToken}
use Rattle.pv_dtd.specs.Plain.{PlainDtd}
use Rattle.pv_dtd.specs.Proper.{IsProperDtd}
use Rattle.pv_rules.specs.Rules.{Goal, over}
use Rattle.pv_rules.specs.Sites.{PlainSite}
use Rattle.pv_tree.specs.Lists.{Listed}
use Rattle.pv_tree.specs.Words.{word_of}
use Rattle.pv_missing.specs.ListWeights.{BoundInAll, IsBound, site_of}
use Rattle.pv_bounds.specs.Bounds.{IsBelowSites}
use Rattle.pv_bounds.specs.Laws.{BelowSitesIsBound}
use Rattle.pv_long.specs.AddedBounds.{AreBounded}

module _ {M : Type 0} (g : PlainDtd) (root : List ℕ) where
  pub none_bounded : (k : ℕ) → AreBounded g root (let none : List (Listed M) = [] in none) k k
  none_bounded k = record { sum = 0; bounds = refl; added = omega arith }

  all_bounded : (xs ys : List (Listed M)) (a b : ℕ) → BoundInAll g root xs a → BoundInAll g root ys b → BoundInAll g root (xs ++ ys) (a + b)
  all_bounded [] ys a b e more = subst (BoundInAll g root ys) (omega (arith, e)) more
  all_bounded (x ∷ xs) ys a b (k, rest, e, here, others) more =
      (k, rest + b, omega (arith, e), here, all_bounded xs ys rest b others more)

  pub both_bounded : (xs ys : List (Listed M)) (a b c : ℕ) → AreBounded g root xs a b → AreBounded g root ys b c → AreBounded g root (xs ++ ys) a c
  both_bounded xs ys a b c f s = record {
    sum = f.sum + s.sum;
    bounds = all_bounded xs ys f.sum s.sum f.bounds s.bounds;
    added = let h = f.added in let k = s.added in omega arith;
  }

  -- what a table of bounds tells of a list's whole word is a bound of the list
  pub bound_told : (list : Listed M) (w : List PlainToken) (s : PlainSite) (t : Goal → ℕ) (k : ℕ) →
      BelowSitesIsBound M → IsProperDtd g → w ≡ word_of g list.kids → site_of g root list.owner
      ≡ Some s → IsBelowSites g w t → k ≡ t (over s 0 (length w)) → IsBound g root list k
  bound_told list w s t k law proper e site below k_is =
      let told = law g root list s t proper site (subst (λ (v : List PlainToken). IsBelowSites g v t) e below) in
      let same : t (over s 0 (length (word_of g list.kids))) ≡ k = sym (k_is ∙ ap (λ (v : List PlainToken). t (over s 0 (length v))) e) in
      subst (λ (m : ℕ). IsBound g root list m) same told
