-- Marks updated where a list has changed, and above it.
use Rattle.std.specs.Prelude.{IfSome, IsSomeAnd, IsTrue, List, [], Option, Some, None, drop, length}
use Rattle.std.specs.Prelude.{slice_get, take, ℕ, ◌+◌, ◌++◌, ◌-◌, ◌<◌, ◌≡◌, ◌≤◌, ◌^◌, ◌∷◌}
use Rattle.std.specs.List.{between}
use Rattle.pv_cache.specs.WellMarked.{own_left, own_node, told_left, told_left_in, told_nodes}
use Rattle.pv_cache.specs.WellMarked.{told_nodes_in}
use Rattle.pv_edit.specs.Changes.{Change, change_kid}
use Rattle.pv_tree.specs.Lists.{Owner, an_element, the_document}
use Rattle.pv_tree.specs.Places.{kids_of}
use Rattle.pv_tree.specs.Plain.{Forest, PlainDoc, Tree, cdata_node, element, forest_of, is_element}
use Rattle.pv_tree.specs.Plain.{misc_node, no_trees, text_node, tree, trees_of}
use Rattle.pv_tree.specs.declared.nodes.Mark.{Mark}
use Rattle.pv_tree.specs.declared.nodes.Verdict.{Verdict}
use Rattle.pv_cache.specs.declared.updates.Exchange.{Exchange}
use Rattle.pv_cache.specs.declared.updates.InnerVerdict.{InnerVerdict}
use Rattle.pv_cache.specs.declared.told.Told.{Told}

-- the mark of a list of this verdict that was changed by the move of this number
abbrev pub fresh_mark : Owner → Forest Mark → Verdict → ℕ → Mark
fresh_mark owner kids v stamp = record {
  verdict = v;
  stamp = stamp;
  left = own_left v + told_left_in kids;
  nodes = own_node owner + told_nodes_in kids;
}

-- an element whose own list has changed
abbrev pub update_element : Verdict → ℕ → Tree Mark → Tree Mark
update_element v stamp (element x attrs ending kids mark) =
    element x attrs ending kids (fresh_mark (an_element x) kids v stamp)
update_element v stamp (text_node units) = text_node units
update_element v stamp (cdata_node bytes) = cdata_node bytes
update_element v stamp (misc_node bytes) = misc_node bytes

-- the kids of a changed list, of which one may have a changed list too
abbrev pub update_kids : Option InnerVerdict → ℕ → Forest Mark → Forest Mark
update_kids None stamp kids = kids
update_kids (Some inner) stamp kids = change_kid (update_element inner.verdict stamp) inner.place kids

-- the owner of a changed list
abbrev pub update_owner : Verdict → Option InnerVerdict → ℕ → Tree Mark → Tree Mark
update_owner v inner stamp (element x attrs ending kids mark) =
    update_element v stamp (element x attrs ending (update_kids inner stamp kids) mark)
update_owner v inner stamp (text_node units) = text_node units
update_owner v inner stamp (cdata_node bytes) = cdata_node bytes
update_owner v inner stamp (misc_node bytes) = misc_node bytes

-- an element with a kid whose own list has changed
abbrev pub update_kid : InnerVerdict → ℕ → Tree Mark → Tree Mark
update_kid inner stamp (element x attrs ending kids mark) =
    element x attrs ending (change_kid (update_element inner.verdict stamp) inner.place kids) mark
update_kid inner stamp (text_node units) = text_node units
update_kid inner stamp (cdata_node bytes) = cdata_node bytes
update_kid inner stamp (misc_node bytes) = misc_node bytes

-- an element with a kid whose own list has changed, where there is such a kid
abbrev pub update_inner : Option InnerVerdict → ℕ → Tree Mark → Tree Mark
update_inner None stamp t = t
update_inner (Some inner) stamp t = update_kid inner stamp t

-- the mark of a list whose kids tell other numbers than before
abbrev pub count_again : Forest Mark → Forest Mark → Mark → Mark
count_again before after mark = record mark {
  left = mark.left + told_left_in after - told_left_in before;
  nodes = mark.nodes + told_nodes_in after - told_nodes_in before;
}

-- an element, one of whose kids tells other numbers than before
abbrev pub with_kid_changed : (Tree Mark → Tree Mark) → ℕ → Tree Mark → Tree Mark
with_kid_changed f i (element x attrs ending kids mark) =
    element x attrs ending (change_kid f i kids) (count_again kids (change_kid f i kids) mark)
with_kid_changed f i (text_node units) = text_node units
with_kid_changed f i (cdata_node bytes) = cdata_node bytes
with_kid_changed f i (misc_node bytes) = misc_node bytes

-- a tree, updated at a path and above
abbrev pub update_below : List ℕ → (Tree Mark → Tree Mark) → Tree Mark → Tree Mark
update_below [] f t = f t
update_below (i ∷ path) f t = with_kid_changed (update_below path f) i t

-- the root, where its own list has changed
abbrev pub update_root : Option InnerVerdict → ℕ → Tree Mark → Tree Mark
update_root None stamp t = t
update_root (Some inner) stamp t = update_element inner.verdict stamp t

-- The document has this root, and its own mark tells of it.
abbrev pub with_root : Tree Mark → Mark → PlainDoc Mark → PlainDoc Mark
with_root t mark doc = record { before = doc.before; root = t; after = doc.after; mark = mark }

-- a document, updated at the list at a path and above
abbrev pub update_doc : List ℕ → Verdict → Option InnerVerdict → ℕ → PlainDoc Mark → PlainDoc Mark
update_doc [] v inner stamp doc =
    with_root (update_root inner stamp doc.root)
    (fresh_mark the_document (tree (update_root inner stamp doc.root) no_trees) v stamp) doc
update_doc (i ∷ path) v inner stamp doc =
    with_root (update_below path (update_owner v inner stamp) doc.root)
    (count_again (tree doc.root no_trees)
    (tree (update_below path (update_owner v inner stamp) doc.root) no_trees) doc.mark) doc

-- an element stands at this place of a list
abbrev pub HasElement : List (Tree Mark) → ℕ → Type 0
HasElement kids i = IsSomeAnd (slice_get kids i) (λ t. IsTrue (is_element t))

-- of these kids, those beside the ones that came: the first and the last ones
abbrev pub kids_beside : Exchange → List (Tree Mark) → List (Tree Mark)
kids_beside e kids = take e.from kids ++ drop (length kids - e.behind) kids

-- A mark tells of the list as it was before some kids came: of those beside them, and of those that
-- gave way.
abbrev pub TellsBefore : Exchange → List (Tree Mark) → Mark → Type 0
TellsBefore e kids mark =
    (e.from + e.behind ≤ length kids) ×
    (mark.left ≡ own_left mark.verdict
    + (e.gone.left + told_left_in (forest_of (kids_beside e kids)))) ×
    (mark.nodes ≡ 1 + (e.gone.nodes + told_nodes_in (forest_of (kids_beside e kids))))

-- the mark of an element tells of its list before some kids came
abbrev pub OwnerTellsBefore : Exchange → Tree Mark → Type 0
OwnerTellsBefore e (element x attrs ending kids mark) = TellsBefore e (trees_of kids) mark
OwnerTellsBefore e (text_node units) = ⊥
OwnerTellsBefore e (cdata_node bytes) = ⊥
OwnerTellsBefore e (misc_node bytes) = ⊥

-- This is what a change of these kids exchanges.
pub record IsExchange (c : Change Mark) (kids : List (Tree Mark)) (e : Exchange) : Type 0 where
  pub from : e.from ≡ c.from
  pub behind : e.behind + c.to ≡ length kids
  pub left : e.gone.left ≡ told_left_in (forest_of (between c.from c.to kids))
  pub nodes : e.gone.nodes ≡ told_nodes_in (forest_of (between c.from c.to kids))

-- The owner of a changed list can be updated: an element stands where the list has an inner one, and
-- the mark tells of the list before.
abbrev pub CanUpdateOwner : Option InnerVerdict → ℕ → Exchange → Tree Mark → Type 0
CanUpdateOwner inner stamp e t = IsTrue (is_element t) ×
    IfSome inner (λ i. HasElement (kids_of t) i.place) ×
    OwnerTellsBefore e (update_inner inner stamp t)

-- The marks on the way to a list tell no less than those of their kids, so that they can be told
-- again, and this holds of its owner.
abbrev pub CanUpdate : (Tree Mark → Type 0) → List ℕ → Tree Mark → Type 0
CanUpdate P [] t = P t
CanUpdate P (i ∷ path) (element x attrs ending kids mark) =
    (told_left_in kids ≤ mark.left) × (told_nodes_in kids ≤ mark.nodes) ×
    IsSomeAnd (slice_get (trees_of kids) i) (CanUpdate P path)
CanUpdate P (i ∷ path) (text_node units) = ⊥
CanUpdate P (i ∷ path) (cdata_node bytes) = ⊥
CanUpdate P (i ∷ path) (misc_node bytes) = ⊥

-- an element, of which another number is told
abbrev pub with_told : Told → Told → Tree Mark → Tree Mark
with_told before after (element x attrs ending kids mark) =
    element x attrs ending kids (record mark {
      left = mark.left - before.left + after.left;
      nodes = mark.nodes - before.nodes + after.nodes;
    })
with_told before after (text_node units) = text_node units
with_told before after (cdata_node bytes) = cdata_node bytes
with_told before after (misc_node bytes) = misc_node bytes

-- of which at least so much is told
abbrev pub TellsAtLeast : Told → Tree Mark → Type 0
TellsAtLeast told t = (told.left ≤ told_left t) × (told.nodes ≤ told_nodes t)

-- what a mark tells can be counted
pub record IsMarkCounted (mark : Mark) : Type 0 where
  pub left : mark.left < 2 ^ 64
  pub nodes : mark.nodes < 2 ^ 64

-- what is told of a tree can be counted
pub record IsCounted (t : Tree Mark) : Type 0 where
  pub left : told_left t < 2 ^ 64
  pub nodes : told_nodes t < 2 ^ 64

-- what is told of a kid, once it is updated, can be counted
abbrev pub KidIsCounted : InnerVerdict → ℕ → Tree Mark → Type 0
KidIsCounted inner stamp t =
    IsSomeAnd (slice_get (kids_of t) inner.place)
    (λ k. IsCounted (update_element inner.verdict stamp k))

-- the marks on the way to the node at this path tell at least what those below tell, and P holds
-- there
abbrev pub CanUpdateDoc : (Tree Mark → Type 0) → List ℕ → PlainDoc Mark → Type 0
CanUpdateDoc P [] doc = Unit {0}
CanUpdateDoc P (i ∷ path) doc =
    (told_left doc.root ≤ doc.mark.left) × (told_nodes doc.root ≤ doc.mark.nodes) ×
    CanUpdate P path doc.root

-- what the mark of a document tells can be counted
pub record IsDocCounted (doc : PlainDoc Mark) : Type 0 where
  pub left : doc.mark.left < 2 ^ 64
  pub nodes : doc.mark.nodes < 2 ^ 64
