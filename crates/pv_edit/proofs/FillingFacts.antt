-- What comes in place of what in an edit, for the facts that a document keeps.
use Rattle.std.proofs.Common.{◌≡◌, ◌≢◌, ◌∙◌, ap, sym, refl, ℕ, zero, suc, ◌+◌, ◌<◌, ◌≤◌, true, false, not, ◌&&◌, List, [], ◌∷◌, ◌++◌, length, take}
use Rattle.std.proofs.Common.{drop, map, None, arith, subst, length-append, length-drop}
use Rattle.std.specs.List.{between, list_all, list_any}
use Rattle.std.proofs.lemmas.Bool.{and_parts, not-false}
use Rattle.std.proofs.lemmas.List.{append-nil, take-append-drop, length-take-le}
use Rattle.std.proofs.lemmas.List.Edits.{split_between}
use Rattle.std.proofs.lemmas.List.Folds.{list_all-append}
use Rattle.pv_chars.specs.Texts.{joined}
use Rattle.pv_chars.specs.Units.{AllUnits}
use Rattle.pv_chars.proofs.MeansLemmas.{AllUnits-append}
use Rattle.pv_tree.specs.Plain.{Ending, short, tagged, Tree, element, text_node, cdata_node, misc_node, Forest, no_trees, forest_of, trees_of, is_element, nodes_in_all, depth_of_all}
use Rattle.pv_tree.specs.Places.{kids_of}
use Rattle.pv_edit.specs.Changes.{Change, in_place_of, all_kids, with_name, list_after}
use Rattle.pv_edit.specs.Effects.{change_of, parent_of, kid_place, next_of, units_at}
use Rattle.pv_edit.specs.GivenNames.{is_line_end, is_character_data, is_unit, is_new_text}
use Rattle.pv_edit.specs.GivenNames.{new_units}
use Rattle.pv_edit.specs.Reasons.{is_top, is_one_element, kids_at, lacks_element, spells_close_mark, reason_of}
use Rattle.pv_edit.specs.declared.edits.Edit.TheVariants.{Wrap, Insert, Unwrap, Rename, Split, Join, SetText, AddText, DelText}
use Rattle.pv_edit.proofs.TooDeepChanges.{whole_range}
use Rattle.pv_edit.proofs.Levels.{forest-trees}
use Rattle.pv_edit.proofs.CutParts.{between-kid, between-kids}
use Rattle.pv_edit.proofs.EachNode.{EachNodes}
use Rattle.pv_edit.proofs.NodeFacts.{Named, Formed, United, Lawful, no-attributes}
use Rattle.pv_edit.proofs.ListsWithoutCloseMark.{Unbroken, back-none, front-only, element-between}
use Rattle.pv_edit.proofs.ListsWithoutCloseMark.{texts-joined}
use Rattle.pv_edit.proofs.PassedEdits.{text-at, element-at, next-kid, text-inside, WrapPasses, wrap-passes, insert-passes, UnwrapPasses}
use Rattle.pv_edit.proofs.PassedEdits.{unwrap-passes, rename-passes, split-passes, join-passes, set-passes, add-passes, del-passes}
use Rattle.pv_edit.proofs.MadeChanges.{never}
use Rattle.pv_edit.proofs.Texts.{units-tested, tested-units, tested-text}

-- What comes in place has what a document keeps, where what gives way has it.
pub record Fresh {M : Type 0} (c : Change M) (list : List ℕ) (ts : List (Tree M)) : Type 0 where
  pub keeps_end : c.shorten ≡ false
  pub names : EachNodes Named (forest_of (between c.from c.to ts)) → EachNodes Named (forest_of (in_place_of c.filling (between c.from c.to ts)))
  pub forms : EachNodes Formed (forest_of (between c.from c.to ts)) → EachNodes Formed (forest_of (in_place_of c.filling (between c.from c.to ts)))
  pub units : EachNodes United (forest_of (between c.from c.to ts)) → EachNodes United (forest_of (in_place_of c.filling (between c.from c.to ts)))
  pub legal : EachNodes Lawful (forest_of (between c.from c.to ts)) → EachNodes Lawful (forest_of (in_place_of c.filling (between c.from c.to ts)))
  pub runs : spells_close_mark (forest_of ts) ≡ false → EachNodes Unbroken (forest_of (between c.from c.to ts)) → EachNodes Unbroken (forest_of (in_place_of c.filling (between c.from c.to ts)))
  pub list_runs : spells_close_mark (forest_of ts) ≡ false → spells_close_mark (forest_of (list_after c ts)) ≡ false
  pub nodes : nodes_in_all (forest_of (in_place_of c.filling (between c.from c.to ts))) ≤ nodes_in_all (forest_of (between c.from c.to ts)) + 1
  pub root : is_top list ≡ true → is_one_element (list_after c ts) ≡ true

in-parts : {M : Type 0} (ts : List (Tree M)) (from to : ℕ) → from ≤ to →
    spells_close_mark (forest_of ts) ≡ false →
    spells_close_mark (forest_of (take from ts ++ (between from to ts ++ drop to ts))) ≡ false
in-parts ts from to h s = subst (λ l. spells_close_mark (forest_of l) ≡ false) (split_between ts from to h) s

wrap-root : {M : Type 0} (blank : M) (root : Tree M) (path : List ℕ) (from to : ℕ) (name : List ℕ) →
    WrapPasses blank root path from to name → is_top path ≡ true →
    is_one_element (list_after (change_of blank root (Wrap path from to name)) (kids_at path root)) ≡ true
wrap-root blank root [] from to name p t = let r = whole_range from to p.top in rw (r.0, r.1) refl
wrap-root blank root (i ∷ path) from to name p t = absurd cc

pub wrap-fresh : {M : Type 0} (blank : M) (root : Tree M) (path : List ℕ) (from to : ℕ)
    (name : List ℕ) → reason_of blank root (Wrap path from to name) ≡ None →
    Fresh (change_of blank root (Wrap path from to name)) path (kids_at path root)
wrap-fresh blank root path from to name h =
    let p = wrap-passes blank root path from to name h in
    let ts = kids_at path root in
    record {
      keeps_end = refl;
      names = λ w. ((p.named, w), tt);
      forms = λ w. ((refl, w), tt);
      units = λ w. ((tt, w), tt);
      legal = λ w. (((no-attributes, refl), w), tt);
      runs = λ s w. ((front-only (between from to ts) (drop to ts) (back-none (take from ts) (between from to ts ++ drop to ts) (in-parts ts from to p.order s)), w), tt);
      list_runs = λ s. element-between (take from ts) (between from to ts) (drop to ts) (element name [] (tagged []) (forest_of (between from to ts)) blank) refl (in-parts ts from to p.order s);
      nodes = omega arith;
      root = wrap-root blank root path from to name p;
    }

pub insert-fresh : {M : Type 0} (blank : M) (root : Tree M) (path : List ℕ) (at : ℕ)
    (name : List ℕ) → reason_of blank root (Insert path at name) ≡ None →
    Fresh (change_of blank root (Insert path at name)) path (kids_at path root)
insert-fresh blank root path at name h =
    let p = insert-passes blank root path at name h in
    let ts = kids_at path root in
    record {
      keeps_end = refl;
      names = λ w. ((p.named, tt), tt);
      forms = λ w. ((refl, tt), tt);
      units = λ w. ((tt, tt), tt);
      legal = λ w. (((no-attributes, tt), tt), tt);
      runs = λ s w. ((refl, tt), tt);
      list_runs = λ s. element-between (take at ts) (between at at ts) (drop at ts) (element name [] short no_trees blank) refl (in-parts ts at at (omega arith) s);
      nodes = omega arith;
      root = λ t. never path p.top t;
    }

-- the kids of an element, in its place
kids-each : {M : Type 0} (P : Tree M → Type 0) (old : List (Tree M)) (x attrs : List ℕ) (e : Ending)
    (kids : Forest M) (m : M) → old ≡ element x attrs e kids m ∷ [] → EachNodes P (forest_of old) →
    EachNodes P (forest_of (all_kids old))
kids-each P old x attrs e kids m o w =
    let v : EachNodes P (forest_of (element x attrs e kids m ∷ [])) = subst (λ l. EachNodes P (forest_of l)) o w in
    let k : kids ≡ forest_of (all_kids (element x attrs e kids m ∷ [])) = sym (ap forest_of (append-nil (trees_of kids)) ∙ forest-trees kids) in
    subst (λ l. EachNodes P (forest_of (all_kids l))) (sym o) (subst (λ f. EachNodes P f) k v.0.1)

one-kid : {M : Type 0} (t : Tree M) → not (is_one_element (kids_at (zero ∷ []) t)) ≡ false → is_one_element (kids_of t ++ []) ≡ true
one-kid (element x attrs e kids m) h = ap is_one_element (append-nil (trees_of kids)) ∙ not-false (is_one_element (trees_of kids)) h
one-kid (text_node units) h = absurd cc
one-kid (cdata_node bytes) h = absurd cc
one-kid (misc_node bytes) h = absurd cc

unwrap-root : {M : Type 0} (blank : M) (root : Tree M) (path : List ℕ) →
    UnwrapPasses blank root path → is_top (parent_of path) ≡ true →
    is_one_element (list_after (change_of blank root (Unwrap path)) (kids_at (parent_of path) root)) ≡ true
unwrap-root blank root [] p t = let h = p.elem in absurd cc
unwrap-root blank root (zero ∷ []) p t = ap is_one_element (append-nil (kids_of root ++ [])) ∙ one-kid root p.one
unwrap-root blank root (suc i ∷ []) p t = let h = p.elem in absurd cc
unwrap-root blank root (i ∷ j ∷ path) p t = absurd cc

kids-nodes : {M : Type 0} (old : List (Tree M)) (x attrs : List ℕ) (e : Ending) (kids : Forest M)
    (m : M) → old ≡ element x attrs e kids m ∷ [] → nodes_in_all (forest_of (all_kids old))
    ≤ nodes_in_all (forest_of old) + 1
kids-nodes old x attrs e kids m o =
    let k : nodes_in_all (forest_of (trees_of kids ++ [])) ≡ nodes_in_all kids = ap nodes_in_all (ap forest_of (append-nil (trees_of kids)) ∙ forest-trees kids) in
    rw o (omega (arith, k))

pub kids-depth : {M : Type 0} (old : List (Tree M)) (x attrs : List ℕ) (e : Ending)
    (kids : Forest M) (m : M) → old ≡ element x attrs e kids m ∷ [] →
    depth_of_all (forest_of (all_kids old)) ≤ depth_of_all (forest_of old)
kids-depth old x attrs e kids m o =
    let k : depth_of_all (forest_of (trees_of kids ++ [])) ≡ depth_of_all kids = ap depth_of_all (ap forest_of (append-nil (trees_of kids)) ∙ forest-trees kids) in
    rw o (omega (arith, k))

pub unwrap-fresh : {M : Type 0} (blank : M) (root : Tree M) (path : List ℕ) →
    reason_of blank root (Unwrap path) ≡ None → Fresh (change_of blank root (Unwrap path))
    (parent_of path) (kids_at (parent_of path) root)
unwrap-fresh blank root path h =
    let p = unwrap-passes blank root path h in
    let e = element-at path root p.elem in
    let ts = kids_at (parent_of path) root in
    let i = kid_place path in
    let old = between-kid ts i _ e.kid in
    record {
      keeps_end = refl;
      names = kids-each Named (between i (i + 1) ts) e.name e.attrs e.ending e.kids e.mark old;
      forms = kids-each Formed (between i (i + 1) ts) e.name e.attrs e.ending e.kids e.mark old;
      units = kids-each United (between i (i + 1) ts) e.name e.attrs e.ending e.kids e.mark old;
      legal = kids-each Lawful (between i (i + 1) ts) e.name e.attrs e.ending e.kids e.mark old;
      runs = λ s. kids-each Unbroken (between i (i + 1) ts) e.name e.attrs e.ending e.kids e.mark old;
      list_runs = λ s. p.no_mark;
      nodes = kids-nodes (between i (i + 1) ts) e.name e.attrs e.ending e.kids e.mark old;
      root = unwrap-root blank root path p;
    }

-- an element under another name
named-each : {M : Type 0} (P : Tree M → Type 0) (name : List ℕ) (old : List (Tree M)) (x attrs : List ℕ) (e : Ending) (kids : Forest M) (m : M) → old ≡ element x attrs e kids m ∷ []
    → (P (element x attrs e kids m) → P (element name attrs e kids m)) → EachNodes P (forest_of old) → EachNodes P (forest_of (map (with_name name) old))
named-each P name old x attrs e kids m o f w =
    let v : EachNodes P (forest_of (element x attrs e kids m ∷ [])) = subst (λ l. EachNodes P (forest_of l)) o w in
    subst (λ l. EachNodes P (forest_of (map (with_name name) l))) (sym o) ((f v.0.0, v.0.1), tt)

named-root : {M : Type 0} (name : List ℕ) (t : Tree M) → is_element t ≡ true → is_one_element (with_name name t ∷ []) ≡ true
named-root name (element x attrs e kids m) h = refl
named-root name (text_node units) h = absurd cc
named-root name (cdata_node bytes) h = absurd cc
named-root name (misc_node bytes) h = absurd cc

rename-root : {M : Type 0} (blank : M) (root : Tree M) (path name : List ℕ) →
    lacks_element path root ≡ false → is_top (parent_of path) ≡ true →
    is_one_element (list_after (change_of blank root (Rename path name))
    (kids_at (parent_of path) root)) ≡ true
rename-root blank root [] name h t = absurd cc
rename-root blank root (zero ∷ []) name h t = named-root name root (not-false (is_element root) h)
rename-root blank root (suc i ∷ []) name h t = absurd cc
rename-root blank root (i ∷ j ∷ path) name h t = absurd cc

pub rename-fresh : {M : Type 0} (blank : M) (root : Tree M) (path name : List ℕ) →
    reason_of blank root (Rename path name) ≡ None → Fresh (change_of blank root (Rename path name))
    (parent_of path) (kids_at (parent_of path) root)
rename-fresh blank root path name h =
    let p = rename-passes blank root path name h in
    let e = element-at path root p.elem in
    let ts = kids_at (parent_of path) root in
    let i = kid_place path in
    let mid = between i (i + 1) ts in
    let old = between-kid ts i _ e.kid in
    let new : map (with_name name) mid ≡ element name e.attrs e.ending e.kids e.mark ∷ [] = ap (map (with_name name)) old in
    record {
      keeps_end = refl;
      names = named-each Named name mid e.name e.attrs e.ending e.kids e.mark old (λ _. p.named);
      forms = named-each Formed name mid e.name e.attrs e.ending e.kids e.mark old (λ q. q);
      units = named-each United name mid e.name e.attrs e.ending e.kids e.mark old (λ q. q);
      legal = named-each Lawful name mid e.name e.attrs e.ending e.kids e.mark old (λ q. q);
      runs = λ s. named-each Unbroken name mid e.name e.attrs e.ending e.kids e.mark old (λ q. q);
      list_runs = λ s. subst (λ l. spells_close_mark (forest_of (take i ts ++ (l ++ drop (i + 1) ts))) ≡ false) (sym new)
          (element-between (take i ts) mid (drop (i + 1) ts) (element name e.attrs e.ending e.kids e.mark) refl (in-parts ts i (i + 1) (omega arith) s));
      nodes = rw old (omega arith);
      root = rename-root blank root path name p.elem;
    }

pub named-depth : {M : Type 0} (name : List ℕ) (old : List (Tree M)) (x attrs : List ℕ) (e : Ending)
    (kids : Forest M) (m : M) → old ≡ element x attrs e kids m ∷ [] →
    depth_of_all (forest_of (map (with_name name) old)) ≤ depth_of_all (forest_of old)
named-depth name old x attrs e kids m o = rw o (omega arith)

-- ---- texts
some-units : (us : List (List ℕ)) → 0 < length us → us ≢ []
some-units us h e = let n = ap length e in omega arith

no-units : (us : List (List ℕ)) → length us ≡ 0 → us ≡ []
no-units [] h = refl
no-units (u ∷ us) h = absurd (omega arith)

parts-units : (n : ℕ) (us : List (List ℕ)) → AllUnits us → AllUnits (take n us) × AllUnits (drop n us)
parts-units n us all =
    let e : (list_all is_unit (take n us) && list_all is_unit (drop n us)) ≡ true =
    sym (list_all-append is_unit (take n us) (drop n us)) ∙ ap (list_all is_unit)
    (take-append-drop n us) ∙ units-tested us all in
    let p = and_parts (list_all is_unit (take n us)) (list_all is_unit (drop n us)) e in
    (tested-units (take n us) p.0, tested-units (drop n us) p.1)

pub given-units : (text : List ℕ) → is_new_text text ≡ true → AllUnits (new_units text) × (new_units text ≢ [])
given-units text h =
    let t = tested-text text (and_parts (is_character_data text) (not (list_any is_line_end text)) h).0 in
    (t.all, λ e. t.some (t.whole ∙ ap joined e))

-- of a text that gives way
old-text : {M : Type 0} (P : Tree M → Type 0) (old : List (Tree M)) (us : List (List ℕ))
    (more : List (Tree M)) → old ≡ text_node us ∷ more → EachNodes P (forest_of old) →
    P (text_node us) × EachNodes P (forest_of more)
old-text P old us more o w = subst (λ l. EachNodes P (forest_of l)) o w

pub split-fresh : {M : Type 0} (blank : M) (root : Tree M) (path : List ℕ) (at : ℕ) →
    is_element root ≡ true → reason_of blank root (Split path at) ≡ None →
    Fresh (change_of blank root (Split path at)) (parent_of path) (kids_at (parent_of path) root)
split-fresh blank root path at r h =
    let p = split-passes blank root path at h in
    let e = text-at path root p.text in
    let ts = kids_at (parent_of path) root in
    let i = kid_place path in
    let u = units_at path root in
    let mid = between i (i + 1) ts in
    let old : mid ≡ text_node u ∷ [] = between-kid ts i _ e.kid ∙ ap (λ (l : List (List ℕ)). text_node l ∷ []) (sym e.are) in
    let n = length-take-le at u (omega (arith, p.within)) in
    record {
      keeps_end = refl;
      names = λ w. (tt, (tt, tt));
      forms = λ w. (tt, (tt, tt));
      units = λ w. (some-units (take at u) (omega (arith, n, p.some)), (some-units (drop at u) (omega (arith, length-drop at u, p.within)), tt));
      legal = λ w. let q = parts-units at u (old-text Lawful mid u [] old w).0 in (q.0, (q.1, tt));
      runs = λ s w. (tt, (tt, tt));
      list_runs = λ s. texts-joined (take i ts) (take at u) (drop at u) (drop (i + 1) ts)
          ∙ ap (λ (l : List (List ℕ)). spells_close_mark (forest_of (take i ts ++ text_node l ∷ drop (i + 1) ts))) (take-append-drop at u)
          ∙ subst (λ l. spells_close_mark (forest_of (take i ts ++ (l ++ drop (i + 1) ts))) ≡ false) old (in-parts ts i (i + 1) (omega arith) s);
      nodes = rw old (omega arith);
      root = λ t. never (parent_of path) (text-inside path root r p.text) t;
    }

pub join-fresh : {M : Type 0} (blank : M) (root : Tree M) (path : List ℕ) → is_element root ≡ true →
    reason_of blank root (Join path) ≡ None → Fresh (change_of blank root (Join path))
    (parent_of path) (kids_at (parent_of path) root)
join-fresh blank root path r h =
    let p = join-passes blank root path h in
    let e = text-at path root p.text in
    let g = text-at (next_of path) root p.next in
    let ts = kids_at (parent_of path) root in
    let i = kid_place path in
    let u = units_at path root in
    let v = units_at (next_of path) root in
    let mid = between i (i + 2) ts in
    let old : mid ≡ text_node u ∷ text_node v ∷ [] = between-kids ts i _ _ e.kid (next-kid path root g)
    ∙ ap (λ (l : List (List ℕ)). text_node l ∷ text_node g.units ∷ []) (sym e.are) ∙ ap (λ (l : List (List ℕ)). text_node u ∷ text_node l ∷ []) (sym g.are) in
    record {
      keeps_end = refl;
      names = λ w. (tt, tt);
      forms = λ w. (tt, tt);
      units = λ w. (λ both. (old-text United mid u (text_node v ∷ []) old w).0 (let n = ap length both in let m = length-append u v in no-units u (omega arith)), tt);
      legal = λ w. let q = old-text Lawful mid u (text_node v ∷ []) old w in (AllUnits-append u v q.0 q.1.0, tt);
      runs = λ s w. (tt, tt);
      list_runs = λ s. sym (texts-joined (take i ts) u v (drop (i + 2) ts))
          ∙ subst (λ l. spells_close_mark (forest_of (take i ts ++ (l ++ drop (i + 2) ts))) ≡ false) old (in-parts ts i (i + 2) (omega arith) s);
      nodes = rw old (omega arith);
      root = λ t. never (parent_of path) (text-inside path root r p.text) t;
    }

pub set-fresh : {M : Type 0} (blank : M) (root : Tree M) (path text : List ℕ) →
    is_element root ≡ true → reason_of blank root (SetText path text) ≡ None →
    Fresh (change_of blank root (SetText path text)) (parent_of path) (kids_at (parent_of path) root)
set-fresh blank root path text r h =
    let p = set-passes blank root path text h in
    let g = given-units text p.given in
    record {
      keeps_end = refl;
      names = λ w. (tt, tt);
      forms = λ w. (tt, tt);
      units = λ w. (g.1, tt);
      legal = λ w. (g.0, tt);
      runs = λ s w. (tt, tt);
      list_runs = λ s. p.no_mark;
      nodes = omega arith;
      root = λ t. never (parent_of path) (text-inside path root r p.text) t;
    }

pub add-fresh : {M : Type 0} (blank : M) (root : Tree M) (path : List ℕ) (at : ℕ) (text : List ℕ) →
    reason_of blank root (AddText path at text) ≡ None →
    Fresh (change_of blank root (AddText path at text)) path (kids_at path root)
add-fresh blank root path at text h =
    let p = add-passes blank root path at text h in
    let g = given-units text p.given in
    record {
      keeps_end = refl;
      names = λ w. (tt, tt);
      forms = λ w. (tt, tt);
      units = λ w. (g.1, tt);
      legal = λ w. (g.0, tt);
      runs = λ s w. (tt, tt);
      list_runs = λ s. p.no_mark;
      nodes = omega arith;
      root = λ t. never path p.top t;
    }

pub del-fresh : {M : Type 0} (blank : M) (root : Tree M) (path : List ℕ) → is_element root ≡ true →
    reason_of blank root (DelText path) ≡ None → Fresh (change_of blank root (DelText path))
    (parent_of path) (kids_at (parent_of path) root)
del-fresh blank root path r h =
    let p = del-passes blank root path h in
    record {
      keeps_end = refl;
      names = λ w. tt;
      forms = λ w. tt;
      units = λ w. tt;
      legal = λ w. tt;
      runs = λ s w. tt;
      list_runs = λ s. p.no_mark;
      nodes = omega arith;
      root = λ t. never (parent_of path) (text-inside path root r p.text) t;
    }
