-- Laws of what rules derive, each a statement; the first five hold under rules of any kind.
use Rattle.std.specs.Prelude.{Bool, IsTrue, List, Option, length, ℕ, ◌<◌, ◌≡◌, ◌≤◌, ◌↔◌}
use Rattle.std.specs.List.{AllByRecursion}
use Rattle.pv_model.specs.Plain.{PlainToken}
use Rattle.pv_dtd.specs.Facts.{are_known}
use Rattle.pv_dtd.specs.Plain.{PlainDtd, declared}
use Rattle.pv_rules.specs.Barriers.{AreRising, IsBarrier, IsBarrierAtRows, IsWithinRows}
use Rattle.pv_rules.specs.ClosedTables.{IsClosedAtSites}
use Rattle.pv_rules.specs.Derivations.{Derives, IsClosed, IsClosedSet, IsWeight, heaviest}
use Rattle.pv_rules.specs.Kinds.{OfSite}
use Rattle.pv_rules.specs.Rules.{Goal, IsKnownWord, IsSpan, Rule, over}
use Rattle.pv_rules.specs.Sites.{HasSite, PlainSite}

-- no derivation weighs less than a closed table says
abbrev pub ClosedIsBelow : (G : Type 0) → (G → ℕ → List G → Type 0) → Type 0
ClosedIsBelow G R = (t : G → ℕ) → IsClosed R t → (n : ℕ) (x : G) → Derives R n x → t x ≤ n

-- what has a derivation is in each closed set
abbrev pub ClosedSetHolds : (G : Type 0) → (G → ℕ → List G → Type 0) → Type 0
ClosedSetHolds G R = (S : G → Bool) → IsClosedSet R (λ x. IsTrue (S x)) → (n : ℕ) (x : G) →
    Derives R n x → IsTrue (S x)

-- a weight is unique
abbrev pub OneWeight : (G : Type 0) → (G → ℕ → List G → Type 0) → Type 0
OneWeight G R = (x : G) (a b : ℕ) → IsWeight R x a → IsWeight R x b → a ≡ b

-- the table of all weights is closed
abbrev pub WeightsAreClosed : (G : Type 0) → (G → ℕ → List G → Type 0) → Type 0
WeightsAreClosed G R = (t : G → ℕ) → ((x : G) → IsWeight R x (t x)) → IsClosed R t

-- the values of a closed table that are attained are weights
abbrev pub AttainedAreWeights : (G : Type 0) → (G → ℕ → List G → Type 0) → Type 0
AttainedAreWeights G R = (t : G → ℕ) → IsClosed R t → (x : G) → t x ≤ heaviest →
    (t x < heaviest → Derives R (t x) x) → IsWeight R x (t x)

-- a rule is over a span of the word, and its right sides over spans within that one
abbrev pub RulesAreOverSpans : PlainDtd → List PlainToken → Type 0
RulesAreOverSpans g w = (s : PlainSite) (i j c : ℕ) (xs : List Goal) → Rule g w (over s i j) c xs →
    IsSpan w i j × AllByRecursion (λ x. (i ≤ x.from) × (x.from ≤ x.to) × (x.to ≤ j)) xs

-- a rule costs at most 1, and has at most two right sides
abbrev pub RulesAreSmall : PlainDtd → List PlainToken → Type 0
RulesAreSmall g w = (s : PlainSite) (i j c : ℕ) (xs : List Goal) → Rule g w (over s i j) c xs →
    (c ≤ 1) × (length xs ≤ 2)

-- the rules of a site are those of what stands there
abbrev pub RulesAreOfTheirKind : PlainDtd → List PlainToken → Type 0
RulesAreOfTheirKind g w = (s : PlainSite) (i j c : ℕ) (xs : List Goal) →
    Rule g w (over s i j) c xs ↔ OfSite g w i j c xs s

-- where the models speak of names of the DTD alone, the right sides of a rule of one of its sites
-- are sites of it
abbrev pub RulesKeepSites : PlainDtd → List PlainToken → Type 0
RulesKeepSites g w = IsTrue (are_known g) → declared g ≤ length g.names →
    (s : PlainSite) (i j c : ℕ) (xs : List Goal) → Rule g w (over s i j) c xs → HasSite g s →
    AllByRecursion (λ x. HasSite g x.site) xs

-- A table that is closed at the sites of the DTD over the spans of a word, and has the heaviest
-- weight at all other sites, is closed.
abbrev pub ClosedAtSitesIsClosed : PlainDtd → List PlainToken → Type 0
ClosedAtSitesIsClosed g w = declared g ≤ length g.names → IsKnownWord g w → (t : Goal → ℕ) →
    IsClosedAtSites g w t → IsClosed (Rule g w) t

-- no derivation leads beyond a barrier
abbrev pub BarrierHolds : PlainDtd → List PlainToken → Type 0
BarrierHolds g w = (rows : PlainSite → ℕ → Option ℕ) → IsBarrier g w rows → (n : ℕ) (x : Goal) →
    Derives (Rule g w) n x → IsWithinRows rows x

-- of rows that rise, it is enough to look at the rules whose right sides end where the rows say
abbrev pub RowsMakeBarrier : PlainDtd → List PlainToken → Type 0
RowsMakeBarrier g w = (rows : PlainSite → ℕ → Option ℕ) → AreRising w rows →
    IsBarrierAtRows g w rows ↔ IsBarrier g w rows
