-- Why a list is impossible.
use Rattle.std.specs.Prelude.{List, None, Some, ℕ, ◌≡◌}
use Rattle.pv_model.specs.Plain.{empty}
use Rattle.pv_dtd.specs.Plain.{PlainDtd, model_of, number_of}
use Rattle.pv_dtd.specs.Productive.{IsProductive}
use Rattle.pv_tree.specs.Lists.{Listed, Owner, an_element, the_document}
use Rattle.pv_tree.specs.Plain.{Forest, no_trees}
use Rattle.pv_denial.specs.declared.denials.Cause.{Cause}
use Rattle.pv_denial.specs.declared.denials.Cause.TheVariants as cause

-- the name of a list's owner; for the document node the root's name
abbrev pub owner_name : List ℕ → Owner → List ℕ
owner_name root the_document = root
owner_name root (an_element x) = x

-- the DTD doesn't have the owner's name
abbrev pub IsUndeclared : PlainDtd → List ℕ → Owner → Type 0
IsUndeclared g root owner = number_of g (owner_name root owner) ≡ None

-- it has the name, and the name isn't productive
abbrev pub IsUnproductive : PlainDtd → List ℕ → Owner → Type 0
IsUnproductive g root owner =
    (x : ℕ) × (number_of g (owner_name root owner) ≡ Some x) × ¬ IsProductive g x

-- an element that is declared EMPTY has kids of any kind (XML 1.0, 3, Element Valid)
abbrev pub HasKidsInEmpty : {M : Type 0} → PlainDtd → Owner → Forest M → Type 0
HasKidsInEmpty g the_document kids = ⊥
HasKidsInEmpty g (an_element name) kids = (x : ℕ) × (number_of g name ≡ Some x) ×
    (model_of g x ≡ Some empty) × ¬ (kids ≡ no_trees)

-- the cause holds of the list, whatever its word; that of the word, where the DTD has the name
abbrev pub HoldsOfList : {M : Type 0} → PlainDtd → List ℕ → Listed M → Cause → Type 0
HoldsOfList g root list cause.Undeclared = IsUndeclared g root list.owner
HoldsOfList g root list cause.Unproductive = IsUnproductive g root list.owner
HoldsOfList g root list cause.Empty = HasKidsInEmpty g list.owner list.kids
HoldsOfList g root list cause.Word = (x : ℕ) × (number_of g (owner_name root list.owner) ≡ Some x)

-- The first cause of an impossible list that fits, the word where no other does.
abbrev pub IsCause : {M : Type 0} → PlainDtd → List ℕ → Listed M → Cause → Type 0
IsCause g root list cause.Undeclared = IsUndeclared g root list.owner
IsCause g root list cause.Unproductive = IsUnproductive g root list.owner
IsCause g root list cause.Empty =
    HasKidsInEmpty g list.owner list.kids × ¬ IsUnproductive g root list.owner
IsCause g root list cause.Word = HoldsOfList g root list cause.Word ×
    (¬ IsUnproductive g root list.owner) × ¬ HasKidsInEmpty g list.owner list.kids
