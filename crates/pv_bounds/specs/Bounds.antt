-- Tables of bounds.
use Rattle.std.specs.Prelude.{List, ℕ, ◌≤◌}
use Rattle.pv_model.specs.Plain.{PlainToken}
use Rattle.pv_dtd.specs.Plain.{PlainDtd}
use Rattle.pv_rules.specs.Derivations.{Derives}
use Rattle.pv_rules.specs.Rules.{Goal, Rule, over}
use Rattle.pv_rules.specs.Sites.{HasSite, PlainSite}

-- no site of the DTD derives anything over a span of the word at less than its value there
abbrev pub IsBelowSites : PlainDtd → List PlainToken → (Goal → ℕ) → Type 0
IsBelowSites g w t = (s : PlainSite) (i j n : ℕ) → HasSite g s →
    Derives (Rule g w) n (over s i j) → t (over s i j) ≤ n
