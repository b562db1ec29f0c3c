-- Bounds that are remembered, by owner and word.
use Rattle.std.specs.Prelude.{List, Some, map, slice_get, ℕ, ◌≡◌}
use Rattle.pv_dtd.specs.Plain.{PlainDtd}
use Rattle.pv_missing.specs.ListWeights.{IsBound, site_of}
use Rattle.pv_missing.specs.PlainForms.{plain_of}
use Rattle.pv_missing.specs.declared.owners.Of.{Of}
use Rattle.pv_model.specs.Plain.{PlainToken}
use Rattle.pv_model.specs.PlainForms.{plain_token}
use Rattle.pv_tree.specs.Lists.{Listed}
use Rattle.pv_tree.specs.Words.{word_of}
use Rattle.pv_tree.specs.declared.nodes.Mark.{Mark}
use Rattle.pv_long.specs.declared.known.KnownBound.{KnownBound}
use Rattle.pv_long.specs.declared.known.KnownBounds.{KnownBounds}

-- In each list of this word by this owner at least so many elements are missing.
abbrev pub IsWordBound : PlainDtd → Of → List PlainToken → ℕ → Type 0
IsWordBound g of w k = (root : List ℕ) (list : Listed Mark) → w ≡ word_of g list.kids →
    site_of g root list.owner ≡ Some (plain_of of) → IsBound g root list k

-- Each entry tells a bound of its word by its owner.
abbrev pub AreWordBounds : PlainDtd → KnownBounds → Type 0
AreWordBounds g known = (k : ℕ) (e : KnownBound) → slice_get known.entries.items k ≡ Some e →
    IsWordBound g e.of (map plain_token e.word) e.least
