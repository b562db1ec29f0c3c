-- The document node as an element: then each list of a document is that of an element of one tree.
use Rattle.std.proofs.Common.{◌≡◌, ◌∙◌, ap, sym, refl, ℕ, zero, suc, ◌≤◌, true, false, List, [], ◌∷◌, length, Bool, Some, arith, subst}
use Rattle.std.specs.Option.{option_and_then}
use Rattle.std.specs.List.{between}
use Rattle.pv_tree.specs.Plain.{Ending, tagged, Tree, element, Forest, no_trees, tree, forest_of, trees_of}
use Rattle.pv_tree.specs.Places.{node_below, list_of, list_at}
use Rattle.pv_edit.specs.Changes.{Change, list_after, ending_after, owner_after, change_below, first_tree, root_after}
use Rattle.pv_edit.specs.FittingChanges.{CanFill, SuitsChange, CanChange}
use Rattle.pv_edit.specs.Reasons.{is_top, items_of, kids_at}
use Rattle.pv_edit.proofs.NodePlaces.{NodeAt, here, down, at_node, first}
use Rattle.pv_edit.proofs.ListPlaces.{ListAt, top, inside}

abbrev pub whole : {M : Type 0} → M → Tree M → Tree M
whole m root = element (100 ∷ []) [] (tagged []) (tree root no_trees) m

pub list-whole : {M : Type 0} (m : M) (path : List ℕ) (root : Tree M) → list_at path root ≡ option_and_then list_of (node_below path (whole m root))
list-whole m [] root = refl
list-whole m (zero ∷ path) root = refl
list-whole m (suc i ∷ path) root = refl

-- the owner of a list
pub record Owner {M : Type 0} (m : M) (list : List ℕ) (root : Tree M) (ts : List (Tree M)) : Type 0 where
  pub name : List ℕ
  pub attrs : List ℕ
  pub ending : Ending
  pub kids : Forest M
  pub mark : M
  pub node : NodeAt list (whole m root) (element name attrs ending kids mark)
  pub are : trees_of kids ≡ ts

pub owner-of : {M : Type 0} (m : M) {path : List ℕ} {root : Tree M} {ts : List (Tree M)} → ListAt path root ts → Owner m path root ts
owner-of m (top {root = root}) = record { name = 100 ∷ []; attrs = []; ending = tagged []; kids = tree root no_trees; mark = m; node = here; are = refl }
owner-of m (inside {x = x} {attrs = attrs} {e = e} {kids = kids} {m = mark} n) = record { name = x; attrs = attrs; ending = e; kids = kids; mark = mark; node = down first n; are = refl }

-- a change of the list at a path that can be made
pub record Made {M : Type 0} (m : M) (list : List ℕ) (c : Change M) (root : Tree M) (ts : List (Tree M)) : Type 0 where
  pub owner : Owner m list root ts
  pub order : c.from ≤ c.to
  pub within : c.to ≤ length ts
  pub fits : CanFill c.filling (between c.from c.to ts)
  pub one : is_top list ≡ true → length (list_after c ts) ≡ 1
  pub unshort : is_top list ≡ true → c.shorten ≡ false

pub owner-kids : {M : Type 0} {m : M} {list : List ℕ} {root : Tree M} {ts : List (Tree M)} → Owner m list root ts → kids_at list root ≡ ts
owner-kids {m = m} {list = list} {root = root} o = ap items_of (list-whole m list root ∙ ap (option_and_then list_of) (at_node o.node)) ∙ o.are

-- the document node's list
pub top-kids : {M : Type 0} {m : M} {root : Tree M} {ts : List (Tree M)} → Owner m [] root ts → ts ≡ root ∷ []
top-kids {m = m} {root = root} o = let h = at_node o.node in let k : o.kids ≡ tree root no_trees = cc in sym o.are ∙ ap trees_of k

first-only : {M : Type 0} (m : M) (root : Tree M) (ts : List (Tree M)) → length ts ≡ 1 → whole m (first_tree root ts) ≡ element (100 ∷ []) [] (tagged []) (forest_of ts) m
first-only m root [] n = absurd (omega arith)
first-only m root (t ∷ []) n = refl
first-only m root (t ∷ u ∷ ts) n = absurd (omega arith)

ending-kept : {M : Type 0} (b : Bool) (ts : List (Tree M)) → b ≡ false → ending_after b (tagged []) ts ≡ tagged []
ending-kept false ts h = refl
ending-kept true ts h = absurd cc

pub after-whole : {M : Type 0} {m : M} (list : List ℕ) (c : Change M) (root : Tree M)
    (ts : List (Tree M)) → Made m list c root ts → whole m (root_after list c root)
    ≡ change_below list (owner_after c) (whole m root)
after-whole {m = m} [] c root ts d =
    let k = top-kids d.owner in
    let n : length (list_after c (root ∷ [])) ≡ 1 = rw (← k) (d.one refl) in
    first-only m root (list_after c (root ∷ [])) n
    ∙ ap (λ e. element (100 ∷ []) [] e (forest_of (list_after c (root ∷ []))) m) (sym (ending-kept c.shorten (list_after c (root ∷ [])) (d.unshort refl)))
after-whole (zero ∷ path) c root ts d = refl
after-whole (suc i ∷ path) c root ts d = let h = at_node d.owner.node in absurd cc

pub can-change : {M : Type 0} {m : M} (list : List ℕ) (c : Change M) (root : Tree M) (ts : List (Tree M)) → Made m list c root ts → CanChange list c root
can-change [] c root ts d =
    let k = top-kids d.owner in
    record { suits = subst (SuitsChange c) k (record { order = d.order; within = d.within; fits = d.fits }); one = ap (λ l. length (list_after c l)) (sym k) ∙ d.one refl }
can-change (zero ∷ path) c root ts d =
    let e : node_below path root ≡ Some (element d.owner.name d.owner.attrs d.owner.ending d.owner.kids d.owner.mark) = at_node d.owner.node in
    rw e (record { elem = refl; suits = subst (SuitsChange c) (sym d.owner.are) (record { order = d.order; within = d.within; fits = d.fits }) })
can-change (suc i ∷ path) c root ts d = let h = at_node d.owner.node in absurd cc
