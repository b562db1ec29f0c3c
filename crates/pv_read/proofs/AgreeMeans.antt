-- An item that stands in its place has no fault.
use Rattle.std.proofs.Common.{◌≡◌, ◌≤◌, ℕ, suc, List, ◌++◌, Option, Some, None, refl, subst, arith}
use Rattle.pv_read.specs.Limits.{IsWithinDepth, IsDeepest}
use Rattle.pv_read.specs.Items.{Item, bytes_of, HasKnownReferences, BeginsItem}
use Rattle.pv_read.specs.Left.{Left, left_by, open_elements}
use Rattle.pv_read.specs.Kinds.{Kind, subset, syntax, entity, mismatch, doctype_name, deep, BeginsSubset, IsMismatch, IsOtherDoctype, IsTooDeep, HasFault}
use Rattle.pv_read.specs.Meaning.{Outcome, DocumentRestMeans, item}
use Rattle.pv_read.proofs.AgreeSteps.{IsProper}
use Rattle.pv_read.proofs.AgreeNodes.{HoldsBefore}

-- one item stands at the front of some bytes, and no internal subset where an item does
pub record ItemsAreOne : Type 0 where
  pub one : (i j : Item) (bytes rest more : List ℕ) → BeginsItem i bytes rest → BeginsItem j bytes more → i ≡ j
  pub no_subset : (i : Item) (bytes rest : List ℕ) → BeginsItem i bytes rest → BeginsSubset bytes → ⊥

-- no kind of fault stands at an item that may stand and is proper
no_fault : {M : Type 0} (most : Option ℕ) (m : M) (root : List ℕ) (left next : Left M)
    (rest more : List ℕ) (i : Item) → ItemsAreOne → BeginsItem i rest more →
    left_by m left i ≡ Some next → IsProper most root left i
    → (kind : Kind) → HasFault most m root left rest kind → ⊥
no_fault most m root left next rest more i only begins stands proper subset (may, begins_subset) = only.no_subset i rest more begins begins_subset
no_fault most m root left next rest more i only begins stands proper syntax (not_whole, all) = let none = all i more begins in cc
no_fault most m root left next rest more i only begins stands proper entity s = s.has_property (subst HasKnownReferences (only.one i s.item rest more s.more begins s.begins) proper.known)
no_fault most m root left next rest more i only begins stands proper mismatch s = proper.matches (subst (IsMismatch left) (only.one s.item i rest s.more more s.begins begins) s.has_property)
no_fault most m root left next rest more i only begins stands proper doctype_name s = proper.names (subst (IsOtherDoctype root) (only.one s.item i rest s.more more s.begins begins) s.has_property)
no_fault most m root left next rest more i only begins stands proper deep s = proper.within (subst (IsTooDeep most left) (only.one s.item i rest s.more more s.begins begins) s.has_property)

-- the rest means this, whatever the number of items so far
abbrev pub MeansAt : {M : Type 0} → Option ℕ → M → List ℕ → Left M → List ℕ → Outcome M → Type 0
MeansAt most m root left rest o = (k : ℕ) → DocumentRestMeans most m root k left rest o

too_deep : (most : Option ℕ) (n limit : ℕ) → suc n ≤ limit → IsWithinDepth most limit → IsDeepest most n → ⊥
too_deep None n limit less within past = past
too_deep (Some depth) n limit less within past = omega arith

-- items that stand mean, with the rest, what the rest means after them
pub means_before : {M : Type 0} (most : Option ℕ) (m : M) (root : List ℕ) (o : Outcome M) →
    ItemsAreOne → (limit : ℕ) → IsWithinDepth most limit →
    HoldsBefore m root limit (λ left rest. MeansAt most m root left rest o)
means_before most m root o only limit may = record {
  step = λ i left next rest form ends stands is behind k.
      let begins : BeginsItem i (bytes_of i ++ rest) rest = record { has_form = form; whole = refl; ends_well = ends } in
      let proper : IsProper most root left i =
      record {
        known = is.known;
        matches = is.matches;
        names = is.names;
        within = λ deep. too_deep most (open_elements left) limit (is.within deep.0) may deep.1;
      } in
      item i begins stands (no_fault most m root left next (bytes_of i ++ rest) rest i only begins stands proper) (behind (suc k));
}
