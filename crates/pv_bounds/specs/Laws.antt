-- The law of bounds, as a statement. M is the type of a document's marks.
use Rattle.std.specs.Prelude.{List, Some, ℕ, ◌≡◌}
use Rattle.pv_dtd.specs.Plain.{PlainDtd}
use Rattle.pv_dtd.specs.Proper.{IsProperDtd}
use Rattle.pv_rules.specs.Rules.{Goal}
use Rattle.pv_rules.specs.Sites.{PlainSite}
use Rattle.pv_tree.specs.Lists.{Listed}
use Rattle.pv_tree.specs.Words.{word_of}
use Rattle.pv_missing.specs.ListWeights.{IsBound, site_of, whole}
use Rattle.pv_bounds.specs.Bounds.{IsBelowSites}

-- a table of bounds tells of a list, at its whole word, how many elements are missing at least
abbrev pub BelowSitesIsBound : (M : Type 0) → Type 0
BelowSitesIsBound M = (g : PlainDtd) (root : List ℕ) (list : Listed M) (s : PlainSite)
    (t : Goal → ℕ) → IsProperDtd g → site_of g root list.owner ≡ Some s →
    IsBelowSites g (word_of g list.kids) t →
    IsBound g root list (t (whole s (word_of g list.kids)))
