-- A word of productive names is possible exactly where its owner's site derives it.
use Rattle.std.proofs.Common.{List, Some, [], ap, arith, inl, inr, length, refl, slice_get, suc, sym, ℕ, ◌∷◌, ◌↔◌, ◌≡◌, ◌⊎◌}
use Rattle.pv_model.specs.Plain.{PlainToken, named}
use Rattle.pv_dtd.specs.Plain.{PlainDtd}
use Rattle.pv_dtd.specs.Proper.{IsProperDtd}
use Rattle.pv_rules.specs.Derivations.{DeriveAll, Derives, by_rule, one_more}
use Rattle.pv_rules.specs.SiteDerivations.{DerivesAt}
use Rattle.pv_rules.specs.Rules.{Rule, kept, missing, over}
use Rattle.pv_rules.specs.Sites.{PlainSite, content_site, name_site}
use Rattle.pv_rules.proofs.DerivationsMade.{spanned, to_one}
use Rattle.pv_missing.specs.FilledWords.{IsPossible, IsPossibleRoot}
use Rattle.pv_missing.specs.LiveWords.{AreProductiveTokens}
use Rattle.pv_missing.specs.WordLaws.{PossibleDerives}
use Rattle.pv_missing.specs.declared.owners.Of.TheVariants as of
use Rattle.pv_missing.proofs.PossibleWords.{depths}
use Rattle.pv_missing.proofs.SpanDerivations.{content_weights, root_weights}

module _ (g : PlainDtd) (w : List PlainToken) (proper : IsProperDtd g) (productive : AreProductiveTokens g w) where
  pub content_possible : (x : ℕ) → DerivesAt g w (content_site x) 0 (length w) ↔ IsPossible g x w
  content_possible x = (
    (λ d. (depths g x w).0.1 (d.0, (content_weights g x d.0 w proper productive).0 d.1)),
    (λ p. let q = (depths g x w).0.0 p in let r = (content_weights g x q.0 w proper productive).1 q.1 in (r.0, r.2)),
  )

  pub root_possible : (x : ℕ) → DerivesAt g w (name_site x) 0 (length w) ↔ IsPossibleRoot g x w
  root_possible x = (
    (λ d. (depths g x w).1.1 (d.0, (root_weights g x d.0 w proper productive).0 d.1)),
    (λ p. let q = (depths g x w).1.0 p in let r = (root_weights g x q.0 w proper productive).1 q.1 in (r.0, r.2)),
  )

  single : (v : List PlainToken) (x n : ℕ) → slice_get v 0 ≡ Some (named x) → n ≡ 1 → length v ≡ n → v ≡ named x ∷ []
  single [] x n e f h = absurd cc
  single (t ∷ []) x n e f h = let z : t ≡ named x = cc in ap (λ y. y ∷ []) z
  single (t ∷ u ∷ v) x n e f h = absurd (omega arith)

  only : (s : PlainSite) (i j m : ℕ) → DeriveAll (Rule g w) m (over s i j ∷ []) → DerivesAt g w s i j
  only s i j m (one_more _ a b _ _ e d ds) = (a, d)

  name_case : (x n i j : ℕ) → i ≡ 0 → j ≡ length w → Derives (Rule g w) n (over (name_site x) i j) → (w ≡ named x ∷ []) ⊎ DerivesAt g w (content_site x) i j
  name_case x n i j e f (by_rule _ c m _ xs h (kept _ _ k) ds) = inl (single w x (suc i) (rw e at k) (omega arith) (sym f))
  name_case x n i j e f (by_rule _ c m _ xs h (missing _ _ _ l) ds) = inr (only (content_site x) i j m ds)

  -- the root's word is one element of its name, or the content of one that is missing
  pub root_either : (x : ℕ) → IsPossibleRoot g x w → (w ≡ named x ∷ []) ⊎ IsPossible g x w
  root_either x p = let d = (root_possible x).1 p in
      elim (name_case x d.0 0 (length w) refl refl d.1) [ inl e ↦ inl e | inr c ↦ inr ((content_possible x).0 c) ]

  pub content_at_root : (x : ℕ) → IsPossible g x w → IsPossibleRoot g x w
  content_at_root x p =
      let d = (content_possible x).1 p in
      (root_possible x).0 (to_one g w 1 (name_site x) (content_site x) 0 (length w) 0 (length w) (missing x 0 (length w) (spanned g w (content_site x) 0 (length w) d)) d)

pub possible_derives : PossibleDerives
possible_derives g (of.Root id) w proper productive = root_possible g w proper productive id.0
possible_derives g (of.Elem id) w proper productive = content_possible g w proper productive id.0
