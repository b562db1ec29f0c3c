-- Laws of the weights of lists, each a statement. M is the type of a document's marks.
use Rattle.std.specs.Prelude.{List, Some, [], ℕ, ◌+◌, ◌∷◌, ◌≡◌, ◌↔◌}
use Rattle.pv_model.specs.Plain.{PlainToken}
use Rattle.pv_dtd.specs.Plain.{PlainDtd}
use Rattle.pv_dtd.specs.Proper.{IsProperDtd}
use Rattle.pv_tree.specs.Lists.{Listed, lists_of}
use Rattle.pv_tree.specs.Plain.{PlainDoc}
use Rattle.pv_tree.specs.View.{view}
use Rattle.pv_tree.specs.Words.{word_of}
use Rattle.pv_tree.specs.declared.nodes.Verdict.{Verdict}
use Rattle.pv_tree.specs.declared.nodes.Verdict.TheVariants as verdict
use Rattle.pv_rules.specs.Derivations.{IsWeight}
use Rattle.pv_rules.specs.Rules.{Rule}
use Rattle.pv_rules.specs.Sites.{PlainSite}
use Rattle.pv_missing.specs.Completions.{IsPotentiallyValid}
use Rattle.pv_missing.specs.LiveWords.{IsLiveWord}
use Rattle.pv_missing.specs.Proper.{IsProperDoc}
use Rattle.pv_missing.specs.Verdicts.{AreVerdicts, IsLive}
use Rattle.pv_missing.specs.ListWeights.{SumIsLeast, Weighs, site_of, whole}

-- the weight of the list's whole live word
abbrev pub LiveWeighs : {M : Type 0} → PlainDtd → List ℕ → Listed M → ℕ → Type 0
LiveWeighs g root list k = (s : PlainSite) × (live : List PlainToken) ×
    (site_of g root list.owner ≡ Some s) × IsLiveWord g (word_of g list.kids) live ×
    IsWeight (Rule g live) (whole s live) k

-- s is the sum of the weights of the lists that are Possible, where these are the verdicts of all
abbrev pub PossibleWeigh : {M : Type 0} → PlainDtd → List ℕ → List (Listed M) → List Verdict → ℕ →
    Type 0
PossibleWeigh g root [] vs s = s ≡ 0
PossibleWeigh g root (list ∷ lists) [] s = ⊥
PossibleWeigh g root (list ∷ lists) (verdict.Valid ∷ vs) s = PossibleWeigh g root lists vs s
PossibleWeigh g root (list ∷ lists) (verdict.Possible ∷ vs) s = (a : ℕ) × (b : ℕ) × (s ≡ a + b) ×
    LiveWeighs g root list a × PossibleWeigh g root lists vs b
PossibleWeigh g root (list ∷ lists) (verdict.Impossible ∷ vs) s = PossibleWeigh g root lists vs s

-- the live word of a live list is its word
abbrev pub LiveIsWord : (M : Type 0) → Type 0
LiveIsWord M = (g : PlainDtd) (root : List ℕ) (list : Listed M) (live : List PlainToken) →
    IsLive g root list → IsLiveWord g (word_of g list.kids) live → live ≡ word_of g list.kids

-- the live word of a live list may be weighed in place of its word
abbrev pub LiveWeight : (M : Type 0) → Type 0
LiveWeight M = (g : PlainDtd) (root : List ℕ) (list : Listed M) (k : ℕ) → IsLive g root list →
    LiveWeighs g root list k ↔ Weighs g root list k

-- the weights of the Possible lists add up to the least number of the document
abbrev pub PossibleWeightsAddUp : (M : Type 0) → Type 0
PossibleWeightsAddUp M = (g : PlainDtd) (root : List ℕ) (doc : PlainDoc M) (vs : List Verdict)
    (s : ℕ) →
    IsProperDtd g → IsProperDoc doc → AreVerdicts g root (lists_of doc) vs →
    IsPotentiallyValid g root (view doc.root) → PossibleWeigh g root (lists_of doc) vs s →
    SumIsLeast g root s (view doc.root)
