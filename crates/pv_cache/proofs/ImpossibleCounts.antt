-- How many lists are Impossible after a change whose marks are updated, as marks tell.
use Rattle.std.proofs.Common.{List, None, Option, Some, [], ap, arith, drop, length, refl, subst}
use Rattle.std.proofs.Common.{suc, sym, take, true, false, zero, ℕ, ◌+◌, ◌++◌, ◌≤◌, ◌∙◌, ◌∷◌, ◌≡◌}
use Rattle.std.proofs.Common.{map, Bool, ◌||◌}
use Rattle.std.proofs.lemmas.List.Edits.{split_between}
use Rattle.std.specs.List.{between, list_any}
use Rattle.pv_cache.specs.BadLists.{bad_gained, bad_gone, own_at, own_in, own_inner, own_of}
use Rattle.pv_cache.specs.VerdictsAfterChange.{IsInnerJudged}
use Rattle.pv_cache.specs.Laws.{UpdatedIsCounted}
use Rattle.pv_cache.specs.Updates.{update_below, update_doc, update_element, update_kids, update_owner}
use Rattle.pv_cache.specs.WellMarked.{bad_in, bad_in_all, own_bad, told_bad}
use Rattle.pv_cache.specs.declared.updates.InnerVerdict.{InnerVerdict}
use Rattle.pv_cache.proofs.Docs.{bare-kids, in-root, only, owner-list, top-list, top-place}
use Rattle.pv_cache.proofs.Limits.{node_changed}
use Rattle.pv_cache.proofs.ChangedOwner.{bare, came-parts}
use Rattle.pv_cache.proofs.TreeMarks.{all-bad-within, own-bad-small}
use Rattle.pv_dtd.specs.Plain.{PlainDtd}
use Rattle.pv_edit.specs.BroughtElements.{brings_element}
use Rattle.pv_edit.specs.Changes.{Change, Filling, all_kids, around, change_below, change_kid}
use Rattle.pv_edit.specs.Changes.{doc_after, first_tree, in_place_of, inner, list_after, named}
use Rattle.pv_edit.specs.Changes.{others, owner_after, root_after, with_name}
use Rattle.pv_edit.specs.FittingChanges.{CanFill}
use Rattle.pv_edit.specs.Reasons.{is_one_element}
use Rattle.pv_edit.proofs.ListsKeptByUndo.{can-made}
use Rattle.pv_edit.proofs.Levels.{forest-trees}
use Rattle.pv_edit.proofs.NodePlaces.{KidAt, NodeAt, at_node, down, first, here, later}
use Rattle.pv_edit.proofs.StayingLists.{HaveNoKids}
use Rattle.pv_edit.proofs.DocumentAsElement.{Made, top-kids}
use Rattle.pv_tree.specs.Places.{Spot, at_document, spot_at}
use Rattle.pv_tree.specs.Places.{at_node as at_spot}
use Rattle.std.specs.Option.{option_map}
use Rattle.pv_tree.specs.Plain.{Ending, Forest, PlainDoc, Tree, cdata_node, element, forest_of}
use Rattle.pv_tree.specs.Plain.{is_element, misc_node, nodes_in, nodes_in_all, text_node, trees_of}
use Rattle.pv_tree.specs.declared.nodes.Mark.{Mark}
use Rattle.pv_tree.specs.declared.nodes.Verdict.{Verdict}

-- ---- lists of trees, in parts
bad-joined : (xs ys : List (Tree Mark)) →
    bad_in_all (forest_of (xs ++ ys)) ≡ bad_in_all (forest_of xs) + bad_in_all (forest_of ys)
bad-joined [] ys = omega arith
bad-joined (x ∷ xs) ys = let h = bad-joined xs ys in omega arith

abbrev Three : List (Tree Mark) → ℕ → ℕ → List (Tree Mark) → ℕ
Three ts from to new =
    bad_in_all (forest_of (take from ts)) + bad_in_all (forest_of new) + bad_in_all
    (forest_of (drop to ts))

in-three : (ts new : List (Tree Mark)) (from to : ℕ) →
    bad_in_all (forest_of (take from ts ++ (new ++ drop to ts))) ≡ Three ts from to new
in-three ts new from to =
    let a = bad-joined (take from ts) (new ++ drop to ts) in
    let b = bad-joined new (drop to ts) in
    omega arith

was-three : (ts : List (Tree Mark)) (from to : ℕ) → from ≤ to →
    bad_in_all (forest_of ts) ≡ Three ts from to (between from to ts)
was-three ts from to h =
    ap (λ (l : List (Tree Mark)). bad_in_all (forest_of l)) (split_between ts from to h)
    ∙ in-three ts (between from to ts) from to

-- ---- few nodes
nodes-joined : (xs ys : List (Tree Mark)) →
    nodes_in_all (forest_of (xs ++ ys)) ≡ nodes_in_all (forest_of xs) + nodes_in_all (forest_of ys)
nodes-joined [] ys = omega arith
nodes-joined (x ∷ xs) ys = let h = nodes-joined xs ys in omega arith

pub few-between : (ts : List (Tree Mark)) (from to : ℕ) → from ≤ to →
    nodes_in_all (forest_of (between from to ts)) ≤ nodes_in_all (forest_of ts)
few-between ts from to h =
    let e =
    ap (λ (l : List (Tree Mark)). nodes_in_all (forest_of l)) (split_between ts from to h) in
    let a = nodes-joined (take from ts) (between from to ts ++ drop to ts) in
    let b = nodes-joined (between from to ts) (drop to ts) in
    omega arith

own-few : (t : Tree Mark) → own_of t ≤ nodes_in t
own-few (element x a e k m) = let o = own-bad-small m.verdict in omega arith
own-few (text_node us) = omega arith
own-few (cdata_node b) = omega arith
own-few (misc_node b) = omega arith

own-in-few : (ts : List (Tree Mark)) → own_in ts ≤ nodes_in_all (forest_of ts)
own-in-few [] = omega arith
own-in-few (t ∷ ts) = let a = own-few t in let b = own-in-few ts in omega arith

pub gone-few : (f : Filling Mark) (old : List (Tree Mark)) →
    bad_gone f old ≤ nodes_in_all (forest_of old)
gone-few (others trees) old = all-bad-within (forest_of old)
gone-few (around name attrs ending mark) old = omega arith
gone-few inner old = own-in-few old
gone-few (named name) old = own-in-few old

pub own-at-small : (m : Mark) (o : Option (Spot Mark)) → own_at m o ≤ 1
own-at-small m None = omega arith
own-at-small m (Some at_document) = own-bad-small m.verdict
own-at-small m (Some (at_spot (element x a e k n))) = own-bad-small n.verdict
own-at-small m (Some (at_spot (text_node us))) = omega arith
own-at-small m (Some (at_spot (cdata_node b))) = omega arith
own-at-small m (Some (at_spot (misc_node b))) = omega arith

pub inner-small : (i : Option InnerVerdict) → own_inner i ≤ 1
inner-small None = omega arith
inner-small (Some i) = own-bad-small i.verdict

-- ---- what comes in place of trees
or-left : (a b : Bool) → (a || b) ≡ false → (a ≡ false) × (b ≡ false)
or-left false b h = (refl, h)
or-left true b h = absurd cc

leaf-bad : (t : Tree Mark) → is_element t ≡ false → bad_in t ≡ 0
leaf-bad (element x a e k m) h = absurd cc
leaf-bad (text_node us) h = refl
leaf-bad (cdata_node b) h = refl
leaf-bad (misc_node b) h = refl

leaves-bad : (ts : List (Tree Mark)) → list_any is_element ts ≡ false →
    bad_in_all (forest_of ts) ≡ 0
leaves-bad [] h = refl
leaves-bad (t ∷ ts) h =
    let b = or-left (is_element t) (list_any is_element ts) h in
    let p = leaf-bad t b.0 in
    let q = leaves-bad ts b.1 in
    omega arith

inner-bad : (old : List (Tree Mark)) → is_one_element old ≡ true →
    bad_in_all (forest_of (all_kids old)) + own_in old ≡ bad_in_all (forest_of old)
inner-bad [] h = absurd cc
inner-bad (element x a e k m ∷ []) h =
    let j = bad-joined (trees_of k) [] in
    let f = ap bad_in_all (forest-trees k) in
    omega arith
inner-bad (text_node us ∷ []) h = absurd cc
inner-bad (cdata_node b ∷ []) h = absurd cc
inner-bad (misc_node b ∷ []) h = absurd cc
inner-bad (t ∷ u ∷ ts) h = absurd cc

-- no element came
none-bad : (f : Filling Mark) (old : List (Tree Mark)) → brings_element f ≡ false → CanFill f old →
    bad_in_all (forest_of (in_place_of f old)) + bad_gone f old ≡ bad_in_all (forest_of old)
none-bad (others trees) old b h = let z = leaves-bad trees b in omega arith
none-bad (around name attrs ending mark) old b h = absurd cc
none-bad inner old b h = inner-bad old h
none-bad (named name) old b h = absurd cc

bare-bad : (x a : List ℕ) (e : Ending) (k : Forest Mark) (m : Mark) → trees_of k ≡ [] →
    bad_in_all k ≡ 0
bare-bad x a e k m z =
    ap bad_in_all (sym (forest-trees k)) ∙ ap (λ (l : List (Tree Mark)). bad_in_all (forest_of l)) z

named-bad : (name x a : List ℕ) (e : Ending) (k : Forest Mark) (m : Mark) (old : List (Tree Mark)) →
    is_one_element old ≡ true → map (with_name name) old ≡ element x a e k m ∷ [] →
    bad_in_all k + own_in old ≡ bad_in_all (forest_of old)
named-bad name x a e k m [] h is = absurd cc
named-bad name x a e k m (element y b f l n ∷ []) h is =
    let same : l ≡ k = cc in
    let s = ap bad_in_all same in
    omega arith
named-bad name x a e k m (text_node us ∷ []) h is = absurd cc
named-bad name x a e k m (cdata_node b ∷ []) h is = absurd cc
named-bad name x a e k m (misc_node b ∷ []) h is = absurd cc
named-bad name x a e k m (t ∷ u ∷ ts) h is = absurd cc

-- this element came
came-bad : (f : Filling Mark) (old : List (Tree Mark)) (x a : List ℕ) (e : Ending) (k : Forest Mark)
    (m : Mark) → brings_element f ≡ true → HaveNoKids f → CanFill f old →
    in_place_of f old ≡ element x a e k m ∷ [] →
    bad_in_all k + bad_gone f old ≡ bad_in_all (forest_of old)
came-bad (others trees) old x a e k m b z h is =
    let none = bare-bad x a e k m (bare trees (element x a e k m) z is) in
    omega arith
came-bad (around name attrs ending mark) old x a e k m b z h is =
    let same : forest_of old ≡ k = cc in
    let s = ap bad_in_all same in
    omega arith
came-bad inner old x a e k m b z h is = absurd cc
came-bad (named name) old x a e k m b z h is = named-bad name x a e k m old h is

module _ (g : PlainDtd) (root : List ℕ) where
  -- the list after the change, updated
  list-bad : (c : Change Mark) (ts : List (Tree Mark)) (i : Option InnerVerdict) (stamp : ℕ) →
      c.from ≤ c.to → c.to ≤ length ts → HaveNoKids c.filling →
      CanFill c.filling (between c.from c.to ts) →
      IsInnerJudged g root c (in_place_of c.filling (between c.from c.to ts)) i →
      bad_in_all (update_kids i stamp (forest_of (list_after c ts))) + bad_gone c.filling
      (between c.from c.to ts) ≡ bad_in_all (forest_of ts) + own_inner i
  list-bad c ts None stamp h l z f j =
      let old = between c.from c.to ts in
      let a = in-three ts (in_place_of c.filling old) c.from c.to in
      let b = was-three ts c.from c.to h in
      let n = none-bad c.filling old j f in
      omega arith
  list-bad c ts (Some i) stamp h l z f j =
      let old = between c.from c.to ts in
      let o = j.2 in
      let new = update_element i.verdict stamp (element o.name o.attrs o.ending o.kids o.mark) in
      let is = ap bad_in_all (came-parts g root c ts i stamp h l j) in
      let a = bad-joined (take c.from ts) (new ∷ drop c.to ts) in
      let b = was-three ts c.from c.to h in
      let n = came-bad c.filling old o.name o.attrs o.ending o.kids o.mark j.0 z f o.is_one in
      omega arith

-- ---- a node of a tree changed
kid-bad : {i : ℕ} {kids : Forest Mark} {k : Tree Mark} (h : Tree Mark → Tree Mark) →
    KidAt i kids k → bad_in_all (change_kid h i kids) + bad_in k ≡ bad_in_all kids + bad_in (h k)
kid-bad h (first {t = t} {rest = rest}) = omega arith
kid-bad h (later {t = t} q) = let r = kid-bad h q in omega arith

change-bad : {path : List ℕ} {t u : Tree Mark} (h : Tree Mark → Tree Mark) → NodeAt path t u →
    bad_in (change_below path h t) + bad_in u ≡ bad_in t + bad_in (h u)
change-bad h here = omega arith
change-bad h (down {path = path} q n) =
    let a = kid-bad (change_below path h) q in
    let b = change-bad h n in
    omega arith

update-bad : {path : List ℕ} {t u : Tree Mark} (f : Tree Mark → Tree Mark) → NodeAt path t u →
    bad_in (update_below path f t) + bad_in u ≡ bad_in t + bad_in (f u)
update-bad f here = omega arith
update-bad f (down {path = path} q n) =
    let a = kid-bad (update_below path f) q in
    let b = update-bad f n in
    omega arith

module _ (g : PlainDtd) (root : List ℕ) (doc : PlainDoc Mark) (c : Change Mark)
    (z : HaveNoKids c.filling) (v : Verdict) (i : Option InnerVerdict) (stamp : ℕ) where
  abbrev Gone : List (Tree Mark) → ℕ
  Gone ts = bad_gone c.filling (between c.from c.to ts)

  abbrev Inner : List (Tree Mark) → Type 0
  Inner ts = IsInnerJudged g root c (in_place_of c.filling (between c.from c.to ts)) i

  abbrev Counted : List ℕ → List (Tree Mark) → Type 0
  Counted list ts =
      told_bad (update_doc list v i stamp (record doc { root = root_after list c doc.root }))
      + (own_at doc.mark (spot_at list doc.root) + Gone ts) ≡ told_bad doc + bad_gained v i

  inside-bad : (path : List ℕ) (ts : List (Tree Mark)) → Made doc.mark (zero ∷ path) c doc.root ts →
      Inner ts → Counted (zero ∷ path) ts
  inside-bad path ts d j =
      let o = d.owner in
      let n = in-root o.node in
      let u = element o.name o.attrs o.ending o.kids o.mark in
      let same = o.are in
      let within : c.to ≤ length (trees_of o.kids) =
      subst (λ k. c.to ≤ length k) (sym same) d.within in
      let fits : CanFill c.filling (between c.from c.to (trees_of o.kids)) =
      subst (λ (k : List (Tree Mark)). CanFill c.filling (between c.from c.to k))
      (sym same) d.fits in
      let judged : Inner (trees_of o.kids) = subst Inner (sym same) j in
      let spot : own_at doc.mark (spot_at (zero ∷ path) doc.root) ≡ own_bad o.mark.verdict =
      ap (λ o. own_at doc.mark (option_map at_spot o)) (at_node n) in
      let gone : Gone (trees_of o.kids) ≡ Gone ts = ap Gone same in
      let list = list-bad g root c (trees_of o.kids) i stamp d.order within z fits judged in
      let whole = ap bad_in_all (forest-trees o.kids) in
      let a = change-bad (owner_after c) n in
      let b = update-bad (update_owner v i stamp) (node_changed (owner_after c) n) in
      omega arith

  top-bad : (ts : List (Tree Mark)) → Made doc.mark [] c doc.root ts → Inner ts → Counted [] ts
  top-bad ts d j =
      let k = top-kids d.owner in
      let judged : Inner (doc.root ∷ []) = subst Inner k j in
      let one : length (list_after c (doc.root ∷ [])) ≡ 1 = rw (← k) (d.one refl) in
      let within : c.to ≤ length (doc.root ∷ []) = subst (λ l. c.to ≤ length l) k d.within in
      let fits : CanFill c.filling (between c.from c.to (doc.root ∷ [])) =
      subst (λ (l : List (Tree Mark)). CanFill c.filling (between c.from c.to l)) k d.fits in
      let t = first_tree doc.root (list_after c (doc.root ∷ [])) in
      let is = only doc.root (list_after c (doc.root ∷ [])) one in
      let e =
      ap bad_in_all
      (top-list stamp t (list_after c (doc.root ∷ [])) is i
      (top-place g root c (doc.root ∷ []) d.order within one i judged)) in
      let gone : Gone ts ≡ Gone (doc.root ∷ []) = ap Gone k in
      let list = list-bad g root c (doc.root ∷ []) i stamp d.order within z fits judged in
      omega arith

  bad-by : (list : List ℕ) (ts : List (Tree Mark)) → Made doc.mark list c doc.root ts → Inner ts →
      Counted list ts
  bad-by [] ts d j = top-bad ts d j
  bad-by (zero ∷ path) ts d j = inside-bad path ts d j
  bad-by (suc k ∷ path) ts d j = let h = at_node d.owner.node in absurd cc

-- the number is that from before, without what went, and with what came
pub updated-counted : UpdatedIsCounted
updated-counted g root doc c v i stamp can unshort b j =
    let d = can-made doc.mark c.list c doc.root can unshort in
    let kids = owner-list d.1 in
    let judged : IsInnerJudged g root c (in_place_of c.filling (between c.from c.to d.0)) i =
    subst (λ (ts : List (Tree Mark)).
    IsInnerJudged g root c (in_place_of c.filling (between c.from c.to ts)) i) kids j.within in
    let all = bad-by g root doc c (bare-kids c.filling b) v i stamp c.list d.0 d.1 judged in
    subst (λ (ts : List (Tree Mark)).
    told_bad (update_doc c.list v i stamp (doc_after c doc))
    + (own_at doc.mark (spot_at c.list doc.root) + bad_gone c.filling (between c.from c.to ts))
    ≡ told_bad doc + bad_gained v i) (sym kids) all
