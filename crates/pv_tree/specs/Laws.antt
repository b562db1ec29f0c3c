-- What holds of lists and validity.
use Rattle.std.specs.Prelude.{◌≡◌, ◌↔◌, ℕ, List}
use Rattle.std.specs.List.{AllByRecursion, AllPairs, Contains}
use Rattle.pv_dtd.specs.Plain.{PlainDtd}
use Rattle.pv_tree.specs.Plain.{PlainDoc}
use Rattle.pv_dtd.specs.Hedge.{IsValid}
use Rattle.pv_tree.specs.Lists.{IsValidList, Listed, lists_of}
use Rattle.pv_tree.specs.PathOrder.{IsListBefore}
use Rattle.pv_tree.specs.Places.{IsListAt}
use Rattle.pv_tree.specs.Units.{HasUnits}
use Rattle.pv_tree.specs.View.{view}
use Rattle.pv_tree.specs.Marks.{blank_mark}
use Rattle.pv_tree.specs.declared.nodes.TheConstants as constants

-- A document in which each text has a unit is valid exactly where each of its lists is valid by
-- itself.
abbrev pub IsValidByLists : Type 0 → Type 0
IsValidByLists M = (g : PlainDtd) (root : List ℕ) (doc : PlainDoc M) → HasUnits doc.root →
    AllByRecursion (IsValidList g root) (lists_of doc) ↔ IsValid g root (view doc.root)

-- The blank mark of the program is the one of the definition.
abbrev pub IsBlank : Type 0
IsBlank = constants.Mark.BLANK ≡ blank_mark

-- Each list of a document is before those that follow it.
abbrev pub ListsAscend : Type 0 → Type 0
ListsAscend M = (doc : PlainDoc M) → AllPairs IsListBefore (lists_of doc)

-- A list is one of a document exactly where it stands at its path there, with its owner and its
-- kids.
abbrev pub ListsStandAtPaths : Type 0 → Type 0
ListsStandAtPaths M = (doc : PlainDoc M) (list : Listed M) →
    Contains (lists_of doc) list ↔ IsListAt doc.root list
