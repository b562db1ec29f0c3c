-- When a change goes too deep.
use Rattle.std.proofs.Common.{◌≡◌, ℕ, zero, suc, ◌+◌, ◌<◌, ◌≤◌, max, Bool, true, false, not, ◌&&◌, List, [], ◌∷◌, length, refl, ap, ◌∙◌, sym, arith}
use Rattle.std.specs.Prelude.{nat_lt, ◌==◌}
use Rattle.std.specs.List.{between}
use Rattle.std.proofs.lemmas.Bool.Decides.{Decides-ltb, Decides-eqb, same_from_decides}
use Rattle.pv_tree.specs.Plain.{Ending, Tree, element, Forest, forest_of, trees_of, depth_of, depth_of_all}
use Rattle.pv_tree.specs.Legal.{MAX_DEPTH}
use Rattle.pv_edit.specs.Changes.{Change, in_place_of, owner_after, root_after}
use Rattle.pv_edit.specs.Effects.{change_of}
use Rattle.pv_edit.specs.Reasons.{goes_too_deep, is_top}
use Rattle.pv_edit.specs.declared.edits.Edit.TheVariants.{Wrap, Insert}
use Rattle.pv_edit.proofs.Levels.{forest-trees}
use Rattle.pv_edit.proofs.NodePlaces.{NodeAt}
use Rattle.pv_edit.proofs.ListPlaces.{ListAt, top, inside}
use Rattle.pv_edit.proofs.Depths.{IsDeeper, deeper, node-depth, middle-depth, splice-deeper}

-- of the root after a change of the list of an element
pub inside-deeper : {M : Type 0} {path x attrs : List ℕ} {e : Ending} {kids : Forest M} {m : M} {root : Tree M} (c : Change M) → c.from ≤ c.to → NodeAt path root (element x attrs e kids m)
    → IsDeeper (depth_of root) (depth_of (root_after (zero ∷ path) c root)) (suc (length path) + depth_of_all (forest_of (in_place_of c.filling (between c.from c.to (trees_of kids)))))
inside-deeper {path = path} {kids = kids} {root = root} c h n =
    let a = deeper (owner_after c) n in
    let b = splice-deeper (trees_of kids) (in_place_of c.filling (between c.from c.to (trees_of kids))) c.from c.to h in
    let k : depth_of_all (forest_of (trees_of kids)) ≡ depth_of_all kids = ap depth_of_all (forest-trees kids) in
    record { rest = max a.rest (length path + suc b.rest); below = omega (arith, a.below, b.below, k, node-depth n); is = omega (arith, a.is, b.is) }

pub same_limit : (old new changed n : ℕ) → IsDeeper old new changed → old ≤ n → nat_lt n new ≡ nat_lt n changed
same_limit old new changed n d h =
    same_from_decides {P = n < new} (nat_lt n new) (nat_lt n changed) (Decides-ltb n new)
    (λ t. let g = (Decides-ltb n changed).0 t in omega (arith, d.is), λ g. (Decides-ltb n changed).1 (omega (arith, d.is, d.below)))

both : (a b : Bool) → not (a && b) ≡ false → (a ≡ true) × (b ≡ true)
both true true h = (refl, refl)
both true false h = absurd cc
both false b h = absurd cc

pub whole_range : (from to : ℕ) → not ((from == 0) && (to == 1)) ≡ false → (from ≡ 0) × (to ≡ 1)
whole_range from to h = let b = both (from == 0) (to == 1) h in ((Decides-eqb from 0).0 b.0, (Decides-eqb to 1).0 b.1)

pub wrap-deep : {M : Type 0} (blank : M) (from to : ℕ) (name : List ℕ) (path : List ℕ)
    (root : Tree M) (ts : List (Tree M)) → ListAt path root ts → from ≤ to →
    (is_top path && not ((from == 0) && (to == 1))) ≡ false → depth_of root ≤ MAX_DEPTH
    → nat_lt MAX_DEPTH (length path + 1 + depth_of_all (forest_of (between from to ts))) ≡ goes_too_deep (change_of blank root (Wrap path from to name)) root
wrap-deep blank from to name path root ts (inside n) h t d =
    ap (nat_lt MAX_DEPTH) (omega arith) ∙ sym (same_limit _ _ _ MAX_DEPTH (inside-deeper (change_of blank root (Wrap path from to name)) h n) d)
wrap-deep blank from to name path root ts top h t d =
    let r = whole_range from to t in
    rw (r.0, r.1) (ap (nat_lt MAX_DEPTH) (omega arith))

pub insert-deep : {M : Type 0} (blank : M) (at : ℕ) (name : List ℕ) (path : List ℕ) (root : Tree M) (ts : List (Tree M)) → ListAt path root ts → is_top path ≡ false → depth_of root ≤ MAX_DEPTH
    → nat_lt MAX_DEPTH (length path + 1) ≡ goes_too_deep (change_of blank root (Insert path at name)) root
insert-deep blank at name path root ts (inside n) t d =
    ap (nat_lt MAX_DEPTH) (omega arith) ∙ sym (same_limit _ _ _ MAX_DEPTH (inside-deeper (change_of blank root (Insert path at name)) (omega arith) n) d)
insert-deep blank at name path root ts top t d = absurd cc

pub range-depth : {M : Type 0} (path : List ℕ) (root : Tree M) (ts : List (Tree M)) (from to : ℕ) → ListAt path root ts → from ≤ to → depth_of_all (forest_of (between from to ts)) ≤ depth_of root
range-depth path root ts from to (inside {kids = kids} n) h =
    omega (arith, middle-depth (trees_of kids) from to h, ap depth_of_all (forest-trees kids), node-depth n)
range-depth path root ts from to top h = omega (arith, middle-depth (root ∷ []) from to h)
