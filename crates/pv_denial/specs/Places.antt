-- Where a list stands in a document of the program.
use Rattle.std.specs.Prelude.{Bool, List, Some, false, true, ℕ, ◌≡◌}
use Rattle.std.specs.List.{Contains}
use Rattle.pv_tree.specs.Lists.{Listed, Owner, an_element, lists_of, the_document}
use Rattle.pv_tree.specs.Places.{at_node, list_of, owner_of}
use Rattle.pv_tree.specs.Plain.{PlainDoc, Tree}
use Rattle.pv_tree.specs.PlainForms.{forest, plain_all}
use Rattle.pv_tree.specs.declared.nodes.Mark.{Mark}
use Rattle.pv_denial.specs.Causes.{owner_name}
use Rattle.pv_denial.specs.declared.places.OwnedList.{OwnedList}

abbrev pub owner_by : Bool → List ℕ → Owner
owner_by true x = the_document
owner_by false x = an_element x

-- the owner and the kids of a list
pub record IsPlaceOf (root : List ℕ) (list : Listed Mark) (p : OwnedList) : Type 0 where
  pub owner : list.owner ≡ owner_by p.of_document p.name.now
  pub name : owner_name root list.owner ≡ p.name.now
  pub kids : list.kids ≡ forest p.kids.now

-- the list at a path of a document has this owner and these kids
pub record IsPlaceAt (root : List ℕ) (doc : PlainDoc Mark) (path : List ℕ) (p : OwnedList) : Type 0
  where
    pub list : Listed Mark
    pub is_listed : Contains (lists_of doc) list
    pub is_path : list.path ≡ path
    pub is_place : IsPlaceOf root list p

-- the node is an element with this name and these kids
pub record IsPlaceOfNode (t : Tree Mark) (p : OwnedList) : Type 0 where
  pub of_document : p.of_document ≡ false
  pub owner : owner_of (at_node t) ≡ Some (an_element p.name.now)
  pub kids : list_of t ≡ Some (plain_all p.kids.now)
