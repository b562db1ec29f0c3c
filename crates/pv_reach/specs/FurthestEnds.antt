-- The furthest ends of sites, by derivations alone.
use Rattle.std.specs.Prelude.{List, None, Option, Some, length, max, slice_get, suc, zero, ℕ, ◌+◌}
use Rattle.std.specs.Prelude.{◌≤◌}
use Rattle.pv_model.specs.Plain.{PlainToken}
use Rattle.pv_dtd.specs.Plain.{PlainDtd}
use Rattle.pv_rules.specs.SiteDerivations.{DerivesAt}
use Rattle.pv_rules.specs.Sites.{HasSite, PlainSite, content_site, name_site, part_site, rest_site}
use Rattle.pv_reach.specs.ReachedPlaces.{kept_past, past_column, past_rest}
use Rattle.pv_reach.specs.declared.reaches.Reaches.{Reaches}

-- The greatest place to which a site has a derivation from place i, and none where it has no
-- derivation from there.
abbrev pub IsGreatestEnd : PlainDtd → List PlainToken → PlainSite → ℕ → Option ℕ → Type 0
IsGreatestEnd g w s i None = (j : ℕ) → ¬ DerivesAt g w s i j
IsGreatestEnd g w s i (Some j) = DerivesAt g w s i j × ((k : ℕ) → DerivesAt g w s i k → k ≤ j)

-- a place that is told by one more than it, 0 telling none
abbrev pub place_told : ℕ → Option ℕ
place_told zero = None
place_told (suc j) = Some j

abbrev pub past_of : Reaches → PlainSite → ℕ → ℕ
past_of r (name_site x) i =
    max (kept_past (slice_get r.ends.word.items i) x i) (past_column r.ends x i)
past_of r (content_site x) i = past_column r.ends x i
past_of r (part_site q) i = past_column r.ends (r.ends.names + q) i
past_of r (rest_site q) i = past_rest r.ends r.rests.items q i

-- what is told of a site and a place
abbrev pub end_told : Reaches → PlainSite → ℕ → Option ℕ
end_told r s i = place_told (past_of r s i)

-- For each site of the DTD and each place of a word, the furthest end is told.
pub record AreReaches (g : PlainDtd) (w : List PlainToken) (r : Reaches) : Type 0 where
  pub ends : (s : PlainSite) (i : ℕ) → HasSite g s → i ≤ length w →
      IsGreatestEnd g w s i (end_told r s i)
