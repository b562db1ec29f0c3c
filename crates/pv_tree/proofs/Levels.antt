-- A node of the program beside its plain tree, level by level.
use Rattle.std.proofs.Common.{◌≡◌, ℕ, ◌+◌, ◌<◌, List, [], ◌∷◌, Vec, Global, length, drop, get_or, drop-cons, add-one, Option, Some, None, slice_get, refl, sym, ap, ◌∙◌, rules}
use Rattle.std.proofs.lemmas.Option.{slice_get-map}
use Rattle.std.specs.Option.{option_map, option_and_then}
use Rattle.pv_tree.specs.Plain.{Tree, element, Forest, no_trees, tree, trees_of, forest_of}
use Rattle.pv_tree.specs.Places.{kids_of, list_of, node_below}
use Rattle.pv_tree.specs.PlainForms.{plain, plain_all, plain_end, forest}
use Rattle.pv_tree.specs.declared.nodes.End.{End}
use Rattle.pv_tree.specs.declared.nodes.Mark.{Mark}
use Rattle.pv_tree.specs.declared.nodes.Node.{Node, Elem, the_lemmas}

pub trees-forest : {M : Type 0} (ts : List (Tree M)) → trees_of (forest_of ts) ≡ ts
trees-forest [] = refl
trees-forest (t ∷ ts) = ap (λ rest. t ∷ rest) (trees-forest ts)

pub forest-trees : {M : Type 0} (kids : Forest M) → forest_of (trees_of kids) ≡ kids
forest-trees no_trees = refl
forest-trees (tree t rest) = ap (λ others. tree t others) (forest-trees rest)

pub plain-Elem : (name attrs : List ℕ) (e : End) (ks : Vec Node Global) (m : Mark) → plain (Elem name attrs e ks m) ≡ element name attrs (plain_end e) (forest ks.items) m
plain-Elem name attrs e ks m = search (rules, the_lemmas)

pub kids_of-Elem : (name attrs : List ℕ) (e : End) (ks : Vec Node Global) (m : Mark) → plain_all ks.items ≡ kids_of (plain (Elem name attrs e ks m))
kids_of-Elem name attrs e ks m = sym (ap kids_of (plain-Elem name attrs e ks m) ∙ trees-forest (plain_all ks.items))

pub list_of-Elem : (name attrs : List ℕ) (e : End) (ks : Vec Node Global) (m : Mark) → Some (plain_all ks.items) ≡ list_of (plain (Elem name attrs e ks m))
list_of-Elem name attrs e ks m = sym (ap list_of (plain-Elem name attrs e ks m) ∙ ap Some (trees-forest (plain_all ks.items)))

-- the node at a path, one step down
step_down : (path : List ℕ) (i : ℕ) (t : Tree Mark) (ks : List Node) (o : Option Node) → i < length path → plain_all ks ≡ kids_of t → slice_get ks (get_or path i 0) ≡ o
    → option_and_then (node_below (drop (i + 1) path)) (option_map plain o) ≡ node_below (drop i path) t
step_down path i t ks o h k e = rw (drop-cons path i 0, ← k, slice_get-map plain ks (get_or path i 0), e, add-one)

pub node_below-kid : (path : List ℕ) (i : ℕ) (t : Tree Mark) (ks : List Node) (kid : Node) → i < length path → plain_all ks ≡ kids_of t → slice_get ks (get_or path i 0) ≡ Some kid
    → node_below (drop (i + 1) path) (plain kid) ≡ node_below (drop i path) t
node_below-kid path i t ks kid h k e = step_down path i t ks (Some kid) h k e

pub node_below-none : (path : List ℕ) (i : ℕ) (t : Tree Mark) (ks : List Node) → i < length path → plain_all ks ≡ kids_of t → slice_get ks (get_or path i 0) ≡ None
    → None ≡ node_below (drop i path) t
node_below-none path i t ks h k e = step_down path i t ks None h k e
