-- One item after others, and what a text means where its rest means something.
use Rattle.std.specs.Prelude.{◌≡◌, ℕ, List, Option, Some}
use Rattle.pv_tree.specs.Marks.{blank_mark}
use Rattle.pv_tree.specs.declared.nodes.Mark.{Mark}
use Rattle.pv_read.specs.Items.{Item, BeginsItem}
use Rattle.pv_read.specs.Left.{Left, left_by}
use Rattle.pv_read.specs.Kinds.{Kind, HasFault}
use Rattle.pv_read.specs.Meaning.{Outcome, DocumentRestMeans}

-- This item stands at the front without fault, and this stands after it.
pub record TakesItem {M : Type 0} (most : Option ℕ) (m : M) (root : List ℕ) (left : Left M)
    (rest : List ℕ) (i : Item) (more : List ℕ) : Type 0 where
  pub next : Left M
  pub begins : BeginsItem i rest more
  pub stands : left_by m left i ≡ Some next
  pub no_fault : (kind : Kind) → HasFault most m root left rest kind → ⊥

-- the rest means whatever is meant after further items
abbrev pub LeadsBehind : {M : Type 0} → Option ℕ → M → List ℕ → ℕ → Left M → List ℕ → ℕ → Left M →
    List ℕ → Type 0
LeadsBehind {M} most m root k left rest j next more =
    (o : Outcome M) → DocumentRestMeans most m root j next more o →
    DocumentRestMeans most m root k left rest o

-- after any items, the rest means something
abbrev pub MeansSomething : List ℕ → List ℕ → Type 0
MeansSomething root rest = (most : Option ℕ) (k : ℕ) (left : Left Mark) →
    (o : Outcome Mark) × DocumentRestMeans most blank_mark root k left rest o
