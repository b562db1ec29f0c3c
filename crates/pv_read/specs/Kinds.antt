-- The kinds of faults of a document text, in the order in which they are tested.
use Rattle.std.specs.Prelude.{◌≡◌, ◌<◌, ℕ, Bool, true, false, List, ◌++◌, codes, Option, Some}
use Rattle.std.specs.Prelude.{None, IsTrue}
use Rattle.pv_tree.specs.Prolog.{IsDoctypeFront}
use Rattle.pv_read.specs.Items.{Item, doctype}
use Rattle.pv_read.specs.Items.{start_tag, empty_tag, end_tag}
use Rattle.pv_read.specs.Items.{HasKnownReferences, BeginsItem}
use Rattle.pv_read.specs.Limits.{IsDeepest}
use Rattle.pv_read.specs.Left.{Left, in_prolog, in_content, takes_doctype, left_by}
use Rattle.pv_read.specs.Left.{open_elements, IsWholeAt}

pub data Kind : Type 0 where
  subset : Kind
  syntax : Kind
  entity : Kind
  mismatch : Kind
  doctype_name : Kind
  deep : Kind

-- The front of a document type declaration, and `[`.
pub record BeginsSubset (bytes : List ℕ) : Type 0 where
  pub name : List ℕ
  pub front : List ℕ
  pub more : List ℕ
  pub is_front : IsDoctypeFront name front
  pub whole : bytes ≡ front ++ (codes "[" ++ more)

-- a document type declaration may stand here
abbrev pub may_stand_doctype : {M : Type 0} → Left M → Bool
may_stand_doctype (in_prolog stage before) = takes_doctype stage
may_stand_doctype _ = false

-- An item of this property stands at the front, and it may stand here.
pub record Stands {M : Type 0} (m : M) (left : Left M) (rest : List ℕ) (P : Item → Type 0)
    : Type 0 where
  pub item : Item
  pub more : List ℕ
  pub next : Left M
  pub begins : BeginsItem item rest more
  pub may_stand : left_by m left item ≡ Some next
  pub has_property : P item

-- the innermost open element doesn't have this name
abbrev pub IsOtherName : {M : Type 0} → Left M → List ℕ → Type 0
IsOtherName (in_content before inner outer) name = name ≡ inner.name → ⊥
IsOtherName _ name = ⊥

-- an end tag of another name than that of the innermost open element
abbrev pub IsMismatch : {M : Type 0} → Left M → Item → Type 0
IsMismatch left (end_tag name gap) = IsOtherName left name
IsMismatch left _ = ⊥

-- a document type declaration of another name than the root's
abbrev pub IsOtherDoctype : List ℕ → Item → Type 0
IsOtherDoctype root (doctype name bytes) = name ≡ root → ⊥
IsOtherDoctype root _ = ⊥

-- the item opens an element
abbrev pub opens_element : Item → Bool
opens_element (start_tag name attrs) = true
opens_element (empty_tag name attrs) = true
opens_element _ = false

-- the item opens an element, and as many are open as may be; the most depth, where there is one, is
-- given
abbrev pub IsTooDeep : {M : Type 0} → Option ℕ → Left M → Item → Type 0
IsTooDeep most left i = IsTrue (opens_element i) × IsDeepest most (open_elements left)

-- A fault of this kind stands at the front of the rest.
abbrev pub HasFault : {M : Type 0} → Option ℕ → M → List ℕ → Left M → List ℕ → Kind → Type 0
HasFault most m root left rest subset = IsTrue (may_stand_doctype left) × BeginsSubset rest
HasFault most m root left rest syntax =
    (IsWholeAt left rest → ⊥) × ((i : Item) (more : List ℕ) → BeginsItem i rest more →
    left_by m left i ≡ None)
HasFault most m root left rest entity = Stands m left rest (λ i. HasKnownReferences i → ⊥)
HasFault most m root left rest mismatch = Stands m left rest (IsMismatch left)
HasFault most m root left rest doctype_name = Stands m left rest (IsOtherDoctype root)
HasFault most m root left rest deep = Stands m left rest (IsTooDeep most left)

-- the order of the kinds
abbrev pub rank : Kind → ℕ
rank subset = 0
rank syntax = 1
rank entity = 2
rank mismatch = 3
rank doctype_name = 4
rank deep = 5

-- the first kind of fault that stands at the front
pub record IsFirstFault {M : Type 0} (most : Option ℕ) (m : M) (root : List ℕ) (left : Left M)
    (rest : List ℕ) (kind : Kind) : Type 0 where
  pub holds : HasFault most m root left rest kind
  pub first : (earlier : Kind) → rank earlier < rank kind →
      HasFault most m root left rest earlier → ⊥
