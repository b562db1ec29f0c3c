-- Trees in which each text has a unit.
use Rattle.std.specs.Prelude.{[], ◌≢◌}
use Rattle.std.specs.Coded.{×_prop, →_prop, Unit-prop}
use Rattle.pv_tree.specs.Plain.{Forest, Tree, cdata_node, element, misc_node, no_trees, text_node}
use Rattle.pv_tree.specs.Plain.{tree}

abbrev mutual
  -- each text has a unit, at all depths
  pub HasUnits : {M : Type 0} → Tree M → Type 0
  HasUnits (element x attrs ending kids mark) = HaveUnits kids
  HasUnits (text_node units) = units ≢ []
  HasUnits (cdata_node bytes) = Unit {0}
  HasUnits (misc_node bytes) = Unit {0}

  pub HaveUnits : {M : Type 0} → Forest M → Type 0
  HaveUnits no_trees = Unit {0}
  HaveUnits (tree t rest) = HasUnits t × HaveUnits rest

-- this is proved in one way at most
mutual
  pub HasUnits-prop : {M : Type 0} (t : Tree M) → IsProp (HasUnits t)
  HasUnits-prop (element x attrs ending kids mark) = HaveUnits-prop kids
  HasUnits-prop (text_node units) = →_prop (λ a. absurd a)
  HasUnits-prop (cdata_node bytes) = Unit-prop
  HasUnits-prop (misc_node bytes) = Unit-prop

  HaveUnits-prop : {M : Type 0} (kids : Forest M) → IsProp (HaveUnits kids)
  HaveUnits-prop no_trees = Unit-prop
  HaveUnits-prop (tree t rest) = ×_prop (HasUnits-prop t) (HaveUnits-prop rest)
