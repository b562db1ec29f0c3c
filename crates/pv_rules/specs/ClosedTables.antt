-- Tables of weights that are closed at the sites of a DTD.
use Rattle.std.specs.Prelude.{List, min, ℕ, ◌+◌, ◌≡◌, ◌≤◌}
use Rattle.pv_model.specs.Plain.{PlainToken}
use Rattle.pv_dtd.specs.Plain.{PlainDtd}
use Rattle.pv_rules.specs.Derivations.{heaviest, sum_of}
use Rattle.pv_rules.specs.Rules.{Goal, IsSpan, Rule, over}
use Rattle.pv_rules.specs.Sites.{HasSite, PlainSite}

-- at each site of the DTD, over each span of the word, the value is at most that of each rule; any
-- other site has the heaviest weight
pub record IsClosedAtSites (g : PlainDtd) (w : List PlainToken) (t : Goal → ℕ) : Type 0 where
  pub closed : (s : PlainSite) (i j c : ℕ) (xs : List Goal) → HasSite g s → IsSpan w i j →
      Rule g w (over s i j) c xs → t (over s i j) ≤ min heaviest (c + sum_of t xs)
  pub elsewhere : (s : PlainSite) (i j : ℕ) → ¬ HasSite g s → t (over s i j) ≡ heaviest
