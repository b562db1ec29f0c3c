-- The search of the texts round a change alone.
use Rattle.std.proofs.Common.{◌≡◌, ◌+◌, ◌-◌, ◌<◌, append_assoc, ℕ, true, false, List, [], ◌∷◌, ◌++◌, length, take, drop, get_or, Option, Some, None, refl, sym, ap, ◌∙◌, subst}
use Rattle.std.specs.Prelude.{is_none, option_and_then}
use Rattle.std.proofs.Math.Seq.{take-length}
use Rattle.std.proofs.lemmas.List.{map-append, take-append-drop, length-drop, drop_more}
use Rattle.pv_tree.specs.Plain.{Tree, element, text_node, cdata_node, misc_node, forest_of, is_element}
use Rattle.pv_tree.specs.Places.{list_at}
use Rattle.pv_tree.specs.Legal.{has_no_close_mark}
use Rattle.pv_tree.specs.PlainForms.{plain, plain_all}
use Rattle.pv_tree.specs.declared.nodes.Node.{Node}
use Rattle.pv_tree.specs.declared.nodes.Mark.{Mark}
use Rattle.pv_edit.specs.Places.{IsParted}
use Rattle.pv_edit.specs.Reasons.{items_of, kids_at, is_text, spells_close_mark}
use Rattle.pv_edit.specs.CloseMarks.{search_units, search_trees, search_run, EndsBy, IsNear}
use Rattle.pv_edit.specs.declared.close_marks.Brackets.{Brackets}
use Rattle.pv_edit.specs.declared.close_marks.Brackets.TheVariants.{Zero}
use Rattle.pv_edit.proofs.EachNode.{each-node}
use Rattle.pv_edit.proofs.Levels.{forest-trees}
use Rattle.pv_edit.proofs.ListPlaces.{ListAt, top, inside, at_list}
use Rattle.pv_edit.proofs.CloseMarkSearch.{run_searched, searched_on, searched_three}
use Rattle.pv_edit.proofs.ListsWithoutCloseMark.{Unbroken, close-each, back-none, front-only}
use Rattle.pv_edit.proofs.ListsWithoutCloseMark.{front-search}

list-unbroken : {M : Type 0} {path : List ℕ} {root : Tree M} {ts : List (Tree M)} →
    ListAt path root ts → is_element root ≡ true → has_no_close_mark root ≡ true →
    spells_close_mark (forest_of ts) ≡ false
list-unbroken (top {root = element x attrs e kids m}) r h = refl
list-unbroken (top {root = text_node units}) r h = absurd cc
list-unbroken (top {root = cdata_node bytes}) r h = absurd cc
list-unbroken (top {root = misc_node bytes}) r h = absurd cc
list-unbroken (inside {kids = kids} {root = root} n) r h = subst (λ f. spells_close_mark f ≡ false) (sym (forest-trees kids)) (each-node Unbroken n (close-each root h)).0

-- no list of a document spells `]]>`
pub kids-unbroken : {M : Type 0} (path : List ℕ) (root : Tree M) → is_element root ≡ true → has_no_close_mark root ≡ true → spells_close_mark (forest_of (kids_at path root)) ≡ false
kids-unbroken path root r h =
    elim (list_at path root) as (λ o. list_at path root ≡ o → spells_close_mark (forest_of (items_of o)) ≡ false)
    [ None ↦ λ l. refl | Some ts ↦ λ l. list-unbroken (at_list path root ts l) r h ] refl

pub parted-front : {M : Type 0} {ts : List (Tree M)} {place : ℕ} {front : List
    (Tree M)} {node : Tree M} {back : List (Tree M)} → IsParted ts place front node back →
    spells_close_mark (forest_of ts) ≡ false → spells_close_mark (forest_of front) ≡ false
parted-front {front = front} {node = node} {back = back} p h = front-only front (node ∷ back) (subst (λ l. spells_close_mark (forest_of l) ≡ false) p.whole h)

pub parted-back : {M : Type 0} {ts : List (Tree M)} {place : ℕ} {front : List (Tree M)} {node : Tree
    M} {back : List (Tree M)} → IsParted ts place front node back → spells_close_mark (forest_of ts)
    ≡ false → spells_close_mark (forest_of back) ≡ false
parted-back {front = front} {node = node} {back = back} p h = back-none (node ∷ []) back (back-none front (node ∷ back) (subst (λ l. spells_close_mark (forest_of l) ≡ false) p.whole h))

cut-whole : (at : ℕ) (kids : List Node) → plain_all kids ≡ plain_all (take at kids) ++ plain_all (drop at kids)
cut-whole at kids = ap plain_all (sym (take-append-drop at kids)) ∙ map-append plain (take at kids) (drop at kids)

pub cut-front : (at : ℕ) (kids front : List Node) (ts : List (Tree Mark)) → plain_all kids ≡ ts →
    front ≡ take at kids → spells_close_mark (forest_of ts) ≡ false →
    spells_close_mark (forest_of (plain_all front)) ≡ false
cut-front at kids front ts k f h =
    subst (λ (l : List Node). spells_close_mark (forest_of (plain_all l)) ≡ false) (sym f)
    (front-only (plain_all (take at kids)) (plain_all (drop at kids)) (subst (λ l. spells_close_mark (forest_of l) ≡ false) (sym k ∙ cut-whole at kids) h))

pub cut-back : (at : ℕ) (kids back : List Node) (ts : List (Tree Mark)) → plain_all kids ≡ ts →
    back ≡ drop at kids → spells_close_mark (forest_of ts) ≡ false →
    spells_close_mark (forest_of (plain_all back)) ≡ false
cut-back at kids back ts k f h =
    subst (λ (l : List Node). spells_close_mark (forest_of (plain_all l)) ≡ false) (sym f)
    (back-none (plain_all (take at kids)) (plain_all (drop at kids)) (subst (λ l. spells_close_mark (forest_of l) ≡ false) (sym k ∙ cut-whole at kids) h))

-- after other texts, the run at the front tells all
run-alone : {M : Type 0} (b : Brackets) (ts : List (Tree M)) → spells_close_mark (forest_of ts) ≡ false → is_none (search_trees b ts) ≡ is_none (search_run b ts)
run-alone b [] h = refl
run-alone b (element x attrs e kids m ∷ ts) h = run_searched ts ∙ h
run-alone b (cdata_node bytes ∷ ts) h = run_searched ts ∙ h
run-alone b (misc_node bytes ∷ ts) h = run_searched ts ∙ h
run-alone b (text_node us ∷ ts) h =
    let rest = back-none (text_node us ∷ []) ts h in
    elim (search_units b us) as (λ o. is_none (option_and_then (λ c. search_trees c ts) o) ≡ is_none (option_and_then (λ c. search_run c ts) o))
    [ None ↦ refl | Some c ↦ run-alone c ts rest ]

-- before a change, the last run tells all
last-alone : {M : Type 0} {ts run : List (Tree M)} → EndsBy ts run → spells_close_mark (forest_of ts) ≡ false → search_trees Zero ts ≡ search_trees Zero run
last-alone {run = run} e h =
    let s = front-search e.front run (subst (λ l. spells_close_mark (forest_of l) ≡ false) e.whole h) in
    ap (search_trees Zero) e.whole ∙ searched_on Zero e.front run ∙ ap (option_and_then (λ c. search_trees c run)) (s.1 ∙ ap Some (e.stops s.0 s.1))

behind-alone : {M : Type 0} (ys zs : List (Tree M)) (o : Option Brackets) → spells_close_mark (forest_of zs) ≡ false
    → is_none (option_and_then (λ b. option_and_then (λ c. search_trees c zs) (search_trees b ys)) o) ≡ is_none (option_and_then (λ b. option_and_then (λ c. search_run c zs) (search_trees b ys)) o)
behind-alone ys zs None h = refl
behind-alone ys zs (Some b) h =
    elim (search_trees b ys) as (λ o. is_none (option_and_then (λ c. search_trees c zs) o) ≡ is_none (option_and_then (λ c. search_run c zs) o))
    [ None ↦ refl | Some c ↦ run-alone c zs h ]

pub near-searched : {M : Type 0} {xs ys zs : List (Tree M)} {o : Option Brackets} →
    IsNear xs ys zs o → spells_close_mark (forest_of xs) ≡ false → spells_close_mark (forest_of zs)
    ≡ false → spells_close_mark (forest_of (xs ++ (ys ++ zs))) ≡ is_none o
near-searched {xs = xs} {ys = ys} {zs = zs} n h k =
    searched_three xs ys zs
    ∙ ap (λ s. is_none (option_and_then (λ b. option_and_then (λ c. search_trees c zs) (search_trees b ys)) s)) (last-alone n.ends h)
    ∙ behind-alone ys zs (search_trees Zero n.run) k ∙ ap is_none (sym n.is)

stops-in : {M : Type 0} (t : Tree M) (b : Brackets) (o : Option Brackets) → is_text t ≡ false → option_and_then (λ c. search_trees c (t ∷ [])) o ≡ Some b → b ≡ Zero
stops-in t b None h e = absurd cc
stops-in (element x attrs g kids m) b (Some c) h e = cc
stops-in (cdata_node bytes) b (Some c) h e = cc
stops-in (misc_node bytes) b (Some c) h e = cc
stops-in (text_node units) b (Some c) h e = absurd cc

-- nothing counts that ends by a node which is no text
stops-behind : {M : Type 0} (ts : List (Tree M)) (t : Tree M) (b : Brackets) → is_text t ≡ false → search_trees Zero (ts ++ t ∷ []) ≡ Some b → b ≡ Zero
stops-behind ts t b h e = stops-in t b (search_trees Zero ts) h (sym (searched_on Zero ts (t ∷ [])) ∙ e)

-- the run after the last node that is no text
pub last-run : (nodes run : List Node) (n : ℕ) (node : Node) → n < length nodes →
    node ≡ get_or nodes n node → is_text (plain node) ≡ false → run ≡ take (length nodes - (n + 1))
    (drop (n + 1) nodes) → EndsBy (plain_all nodes) (plain_all run)
last-run nodes run n node h g t e =
    let r : run ≡ drop (n + 1) nodes = e ∙ ap (λ (k : ℕ). take k (drop (n + 1) nodes)) (sym (length-drop (n + 1) nodes)) ∙ take-length (drop (n + 1) nodes) in
    let s : nodes ≡ take n nodes ++ node ∷ run =
    sym (take-append-drop n nodes) ∙ ap (λ (l : List Node). take n nodes ++ l)
    (drop_more nodes n node h ∙ ap (λ (x : Node). x ∷ drop (n + 1) nodes) (sym g)
    ∙ ap (λ (l : List Node). node ∷ l) (sym r)) in
    record {
      front = plain_all (take n nodes) ++ plain node ∷ [];
      whole = ap plain_all s ∙ map-append plain (take n nodes) (node ∷ run) ∙ sym (append_assoc (plain_all (take n nodes)) (plain node ∷ []) (plain_all run));
      stops = λ b. stops-behind (plain_all (take n nodes)) (plain node) b t;
    }
