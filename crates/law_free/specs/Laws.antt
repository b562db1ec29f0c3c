-- Laws of live, taking and free sites, each a statement.
use Rattle.std.specs.Prelude.{List, Some, length, slice_get, suc, ℕ, ◌↔◌, ◌≡◌, ◌≤◌}
use Rattle.pv_model.specs.Plain.{PlainToken}
use Rattle.pv_dtd.specs.Plain.{PlainDtd}
use Rattle.pv_dtd.specs.Productive.{IsProductive}
use Rattle.pv_dtd.specs.Proper.{IsProperDtd}
use Rattle.pv_rules.specs.Sites.{PlainSite, content_site, name_site}
use Rattle.pv_rules.specs.SiteDerivations.{DerivesAt}
use Rattle.law_free.specs.Free.{IsFree}
use Rattle.law_free.specs.Live.{AreLive, IsLiveSite}
use Rattle.law_free.specs.Runs.{IsFirstNotTaken, IsFurthestEnd}
use Rattle.law_free.specs.Takes.{Takes, TakesEach}

-- a site is live exactly where it derives the empty span, at any place of any word of live names
abbrev pub LiveDerivesNothing : Type 0
LiveDerivesNothing = (g : PlainDtd) (w : List PlainToken) → AreLive g w → (s : PlainSite) (i : ℕ) →
    i ≤ length w → DerivesAt g w s i i ↔ IsLiveSite g s

-- a site that derives anything is live, and takes each token of what it derives
abbrev pub DerivedAreTaken : Type 0
DerivedAreTaken = (g : PlainDtd) (w : List PlainToken) → AreLive g w → (s : PlainSite) (i j : ℕ) →
    DerivesAt g w s i j → IsLiveSite g s × TakesEach g w s i j

-- a site takes a token exactly where it derives that one
abbrev pub TakesDerivesOne : Type 0
TakesDerivesOne = (g : PlainDtd) (w : List PlainToken) → AreLive g w → (s : PlainSite) (i : ℕ)
    (t : PlainToken) → slice_get w i ≡ Some t → DerivesAt g w s i (suc i) ↔ Takes g t s

-- a free site derives exactly the spans of which it takes each token
abbrev pub FreeDerivesTaken : Type 0
FreeDerivesTaken = (g : PlainDtd) (w : List PlainToken) → AreLive g w → (s : PlainSite) →
    IsFree g s → (i j : ℕ) → i ≤ j → j ≤ length w → DerivesAt g w s i j ↔ TakesEach g w s i j

-- its furthest end from a place is the first place whose token it doesn't take
abbrev pub FreeFurthest : Type 0
FreeFurthest = (g : PlainDtd) (w : List PlainToken) → AreLive g w → (s : PlainSite) → IsFree g s →
    (i j : ℕ) → i ≤ length w → IsFurthestEnd g w s i j ↔ IsFirstNotTaken g w s i j

-- a name and its content are live exactly where the name is productive
abbrev pub LiveIsProductive : Type 0
LiveIsProductive = (g : PlainDtd) (y : ℕ) → IsProperDtd g →
    (IsProductive g y ↔ IsLiveSite g (name_site y)) ×
    (IsProductive g y ↔ IsLiveSite g (content_site y))
