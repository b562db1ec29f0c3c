-- A walk over the lists of a document.
use Rattle.std.proofs.Common.{List, None, Option, Some, [], ap, map, refl, slice_get, suc, ℕ, ◌++◌, ◌∷◌, ◌≡◌}
use Rattle.std.specs.List.{AllByRecursion}
use Rattle.pv_tree.specs.Lists.{Listed, lists_at, lists_from, lists_of}
use Rattle.pv_tree.specs.MarkedLists.{list_alone}
use Rattle.pv_tree.specs.Plain.{Forest, PlainDoc, Tree, cdata_node, element, misc_node, no_trees, text_node, tree}
use Rattle.pv_tree.specs.ListWalks.{ComesToNext, lists_left, path_come_to}
use Rattle.pv_tree.specs.Walks.{list_given}
use Rattle.pv_tree.specs.declared.nodes.Mark.{Mark}
use Rattle.pv_tree.specs.declared.walk.DocList.{DocList}
use Rattle.pv_tree.specs.declared.walk.Lists.{Lists}
use Rattle.pv_tree.proofs.JoinedLists.{all_joined}
use Rattle.pv_missing.specs.WordVerdicts.{HoldsOne}

-- the lists that a walk hasn't come to
abbrev pub left_by : Lists → List (Listed Mark)
left_by walk = map list_alone (lists_left walk)

-- the next of them, and the others
pub come_to : (before after : Lists) (given : Option DocList) (list : DocList) → given ≡ Some list →
    ComesToNext before after given → left_by before ≡ list_given (path_come_to after) list ∷ left_by after
come_to before after given list e h = ap (map list_alone) (rw e at h)

pub come_to_none : (before after : Lists) (given : Option DocList) → given ≡ None → ComesToNext before after given → left_by before ≡ []
come_to_none before after given e h = ap (map list_alone) (rw e at h)

-- the list of a number is one of them, and the next where the number is 0
pub there_next : (before after : Lists) (given : Option DocList) (n : ℕ) (list : Listed Mark) →
    ComesToNext before after given → slice_get (left_by before) (suc n) ≡ Some list →
    slice_get (left_by after) n ≡ Some list
there_next before after None n list h e = let there = rw (ap (map list_alone) h) at e in absurd cc
there_next before after (Some given) n list h e = rw (ap (map list_alone) h) at e

pub come_there : (before after : Lists) (given : Option DocList) (list : Listed Mark) → ComesToNext before after given → slice_get (left_by before) 0 ≡ Some list → path_come_to after ≡ list.path
come_there before after None list h e = let there = rw (ap (map list_alone) h) at e in absurd cc
come_there before after (Some given) list h e =
    let there : Some (list_given (path_come_to after) given) ≡ Some list = rw (ap (map list_alone) h) at e in
    let same : list_given (path_come_to after) given ≡ list = cc in
    ap (λ (l : Listed Mark). l.path) same

-- the document node's list is the root alone
abbrev pub Holds : {M : Type 0} → Listed M → Type 0
Holds list = HoldsOne list.owner list.kids

module _ {M : Type 0} where
  mutual
    hold_at : (path : List ℕ) (t : Tree M) → AllByRecursion Holds (lists_at path t)
    hold_at path (element x attrs ending kids mark) = (tt, hold_from path 0 kids)
    hold_at path (text_node units) = tt
    hold_at path (cdata_node bytes) = tt
    hold_at path (misc_node bytes) = tt

    hold_from : (path : List ℕ) (i : ℕ) (kids : Forest M) → AllByRecursion Holds (lists_from path i kids)
    hold_from path i no_trees = tt
    hold_from path i (tree t rest) = all_joined Holds (lists_at (path ++ i ∷ []) t) (lists_from path (suc i) rest) (hold_at (path ++ i ∷ []) t) (hold_from path (suc i) rest)

  pub all_hold : (doc : PlainDoc M) → AllByRecursion Holds (lists_of doc)
  all_hold doc = ((doc.root, refl), hold_at (0 ∷ []) doc.root)
