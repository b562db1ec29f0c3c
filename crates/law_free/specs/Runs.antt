-- How far a site comes from a place of a word, and how far it takes each token.
use Rattle.std.specs.Prelude.{List, Some, length, slice_get, ℕ, ◌≡◌, ◌≤◌}
use Rattle.pv_model.specs.Plain.{PlainToken}
use Rattle.pv_dtd.specs.Plain.{PlainDtd}
use Rattle.pv_rules.specs.Sites.{PlainSite}
use Rattle.pv_rules.specs.SiteDerivations.{DerivesAt}
use Rattle.law_free.specs.Takes.{Takes, TakesEach}

-- j is the furthest end that the site derives from i
pub record IsFurthestEnd (g : PlainDtd) (w : List PlainToken) (s : PlainSite) (i j : ℕ)
    : Type 0 where
  pub within : j ≤ length w
  pub reached : DerivesAt g w s i j
  pub most : (k : ℕ) → DerivesAt g w s i k → k ≤ j

-- j is the first place from i on whose token the site doesn't take, or the end of the word
pub record IsFirstNotTaken (g : PlainDtd) (w : List PlainToken) (s : PlainSite) (i j : ℕ)
    : Type 0 where
  pub behind : i ≤ j
  pub within : j ≤ length w
  pub taken : TakesEach g w s i j
  pub stops : (t : PlainToken) → slice_get w j ≡ Some t → ¬ Takes g t s
