-- Laws of furthest reach, each a statement.
use Rattle.std.specs.Prelude.{List, length, ℕ, ◌≡◌, ◌≤◌, ◌⊎◌}
use Rattle.pv_model.specs.Plain.{PlainToken}
use Rattle.pv_dtd.specs.Plain.{PlainDtd}
use Rattle.pv_dtd.specs.Proper.{IsProperDtd}
use Rattle.pv_rules.specs.Sites.{PlainSite}
use Rattle.pv_missing.specs.LiveWords.{AreProductiveTokens}
use Rattle.pv_rules.specs.SiteDerivations.{DerivesAt}

-- What derives a span of a word of productive names derives each span within it, and each empty
-- span. So the ends that a site reaches from a place are all places up to the furthest one, a later
-- place in between reaches as far, and what derives no tokens at one place does so at every place.
abbrev pub SpansWithin : Type 0
SpansWithin = (g : PlainDtd) (w : List PlainToken) → IsProperDtd g → AreProductiveTokens g w →
    (s : PlainSite) (i j a b : ℕ) →
    DerivesAt g w s i j → a ≤ b → b ≤ length w → (a ≡ b) ⊎ ((i ≤ a) × (b ≤ j)) → DerivesAt g w s a b
