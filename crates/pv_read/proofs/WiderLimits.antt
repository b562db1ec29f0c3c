-- What a text means within some limits it means within wider ones.
use Rattle.std.proofs.Common.{◌≡◌, ℕ, List, Option, Some, None, arith}
use Rattle.pv_read.specs.Limits.{TextLimits, AreWider, IsNoDeeper, IsDeepest}
use Rattle.pv_read.specs.Items.{Item}
use Rattle.pv_read.specs.Left.{Left, open_elements}
use Rattle.pv_read.specs.Kinds.{Kind, subset, syntax, entity, mismatch, doctype_name, deep, HasFault, IsFirstFault, IsTooDeep}
use Rattle.pv_read.specs.Meaning.{Outcome, DocumentRestMeans, ends, item, fault, DocumentMeansWithin, long, items}
use Rattle.pv_read.specs.DocumentLaws.{PassesNoLimit}

deepest_there : (less most : Option ℕ) (n : ℕ) → IsNoDeeper less most → IsDeepest most n → IsDeepest less n
deepest_there less None n wide past = absurd past
deepest_there None (Some most) n wide past = wide
deepest_there (Some less) (Some most) n wide past = omega arith

module _ {M : Type 0} (less most : Option ℕ) (wide : IsNoDeeper less most) (m : M) (root : List ℕ) where
  deep_there : (left : Left M) (i : Item) → IsTooDeep most left i → IsTooDeep less left i
  deep_there left i h = (h.0, deepest_there less most (open_elements left) wide h.1)

  -- a fault under the wider limit is one under the other
  fault_there : (left : Left M) (rest : List ℕ) (kind : Kind) → HasFault most m root left rest kind → HasFault less m root left rest kind
  fault_there left rest subset h = h
  fault_there left rest syntax h = h
  fault_there left rest entity h = h
  fault_there left rest mismatch h = h
  fault_there left rest doctype_name h = h
  fault_there left rest deep h = record { item = h.item; more = h.more; next = h.next; begins = h.begins; may_stand = h.may_stand; has_property = deep_there left h.item h.has_property }

  -- and the other way round, but for depth
  fault_here : (left : Left M) (rest : List ℕ) (kind : Kind) → (kind ≡ deep → ⊥) → HasFault less m root left rest kind → HasFault most m root left rest kind
  fault_here left rest subset other h = h
  fault_here left rest syntax other h = h
  fault_here left rest entity other h = h
  fault_here left rest mismatch other h = h
  fault_here left rest doctype_name other h = h
  fault_here left rest deep other h = absurd (other (λ i. deep))

  first_here : (left : Left M) (rest : List ℕ) (kind : Kind) → (kind ≡ deep → ⊥) → IsFirstFault less m root left rest kind → IsFirstFault most m root left rest kind
  first_here left rest kind other f = record { holds = fault_here left rest kind other f.holds; first = λ earlier before h. f.first earlier before (fault_there left rest earlier h) }

  rest_means : {k : ℕ} {left : Left M} {rest : List ℕ} {o : Outcome M} → PassesNoLimit o → DocumentRestMeans less m root k left rest o → DocumentRestMeans most m root k left rest o
  rest_means keeps (ends none) = ends none
  rest_means keeps (item {left = left} {rest = rest} i begins stands none means) = item i begins stands (λ kind h. none kind (fault_there left rest kind h)) (rest_means keeps means)
  rest_means keeps (fault {left = left} {rest = rest} kind f) = fault kind (first_here left rest kind keeps f)

pub means_within_wider : {M : Type 0} (limits wider : TextLimits) (m : M) (root bytes : List ℕ) (o : Outcome M) → AreWider limits wider → PassesNoLimit o →
    DocumentMeansWithin limits m root bytes o → DocumentMeansWithin wider m root bytes o
means_within_wider limits wider m root bytes o wide keeps (long many) = absurd keeps
means_within_wider limits wider m root bytes o wide keeps (items few mark means) =
    items (omega (arith, wide.bytes)) mark (rest_means limits.depth wider.depth wide.depth m root keeps means)
