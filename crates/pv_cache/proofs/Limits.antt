-- The lists that a change changes, at their paths afterwards.
use Rattle.std.proofs.Common.{Bool, List, map, None, Option, Some, [], ap, arith, drop, false}
use Rattle.std.proofs.Common.{length, refl, slice_get, suc, subst, sym, take, true, zero, ℕ, ◌++◌}
use Rattle.std.proofs.Common.{◌∙◌, ◌∷◌, ◌≡◌}
use Rattle.std.specs.List.{AllByRecursion, between, list_any}
use Rattle.std.specs.Option.{option_and_then, option_map}
use Rattle.pv_dtd.specs.Plain.{PlainDtd}
use Rattle.pv_edit.specs.Changes.{Change, Filling, around, change_below, change_kid, doc_after}
use Rattle.pv_edit.specs.Changes.{in_place_of, inner, list_after, named, others, owner_after}
use Rattle.pv_edit.specs.Changes.{root_after, with_name}
use Rattle.pv_edit.specs.FittingChanges.{CanFill}
use Rattle.pv_edit.specs.Reasons.{is_one_element, items_of, kids_at}
use Rattle.pv_edit.proofs.CutParts.{front-length}
use Rattle.pv_edit.proofs.ListPlaces.{spot-kid}
use Rattle.pv_edit.proofs.NodePlaces.{KidAt, NodeAt, at_node, down, first, here, later}
use Rattle.pv_edit.proofs.DocumentAsElement.{Made, owner-kids, top-kids}
use Rattle.pv_missing.specs.Widths.{FitsVerdict}
use Rattle.pv_tree.specs.Places.{list_at, list_of, node_below, spot_at}
use Rattle.pv_tree.specs.Places.{at_node as at_spot}
use Rattle.pv_tree.specs.Plain.{Ending, Forest, PlainDoc, Tree, cdata_node, element, forest_of}
use Rattle.pv_tree.specs.Plain.{is_element, misc_node, text_node, trees_of}
use Rattle.pv_tree.specs.Words.{word_of}
use Rattle.pv_tree.proofs.Levels.{trees-forest}
use Rattle.pv_tree.specs.declared.nodes.Mark.{Mark}
use Rattle.pv_cache.specs.AcceptedEdits.{IsNarrowAt}
use Rattle.pv_edit.specs.BroughtElements.{BringsBare, brings_element, lists_changed}
use Rattle.pv_cache.specs.MarkedTasks.{AreNarrowAfter}
use Rattle.pv_cache.proofs.Docs.{in-root, only}
use Rattle.pv_edit.proofs.Levels.{forest-trees}
use Rattle.pv_cache.proofs.UpdatableDocuments.{get-middle}

module _ {M : Type 0} where
  kid_changed : {i : ℕ} {kids : Forest M} {k : Tree M} (f : Tree M → Tree M) → KidAt i kids k →
      KidAt i (change_kid f i kids) (f k)
  kid_changed f first = first
  kid_changed f (later q) = later (kid_changed f q)

  pub node_changed : {path : List ℕ} {t u : Tree M} (f : Tree M → Tree M) → NodeAt path t u →
      NodeAt path (change_below path f t) (f u)
  node_changed f here = here
  node_changed f (down {path = path} q n) =
      down (kid_changed (change_below path f) q) (node_changed f n)

  -- the changed list stands at its path
  pub list_stands : (m : M) (list : List ℕ) (c : Change M) (root : Tree M) (ts : List (Tree M)) →
      Made m list c root ts → list_at list (root_after list c root) ≡ Some (list_after c ts)
  list_stands m [] c root ts d =
      let k = top-kids d.owner in
      let one : length (list_after c (root ∷ [])) ≡ 1 = rw (← k) (d.one refl) in
      ap Some (sym (only root (list_after c (root ∷ [])) one) ∙ ap (list_after c) (sym k))
  list_stands m (zero ∷ path) c root ts d =
      let o = d.owner in
      let n = at_node (node_changed (owner_after c) (in-root o.node)) in
      ap (option_and_then list_of) n
      ∙ ap Some (trees-forest (list_after c (trees_of o.kids)) ∙ ap (list_after c) o.are)
  list_stands m (suc i ∷ path) c root ts d = let h = at_node d.owner.node in absurd cc

  -- the list of what stands at a path
  pub spot_list : (path : List ℕ) (root t : Tree M) → spot_at path root ≡ Some (at_spot t) →
      list_at path root ≡ list_of t
  spot_list [] root t s = absurd cc
  spot_list (zero ∷ path) root t s = by (node_below path root) refl s
    where
      by : (o : Option (Tree M)) → node_below path root ≡ o →
          option_map at_spot o ≡ Some (at_spot t) →
          option_and_then list_of (node_below path root) ≡ list_of t
      by None n e = absurd cc
      by (Some u) n e = let is : u ≡ t = cc in ap (option_and_then list_of) n ∙ ap list_of is
  spot_list (suc i ∷ path) root t s = absurd cc

  -- an element that came alone stands below it
  pub came_stands : (m : M) (list : List ℕ) (c : Change M) (root : Tree M) (ts : List (Tree M)) →
      Made m list c root ts →
      (name attrs : List ℕ) (ending : Ending) (kids : Forest M) (mark : M) →
      in_place_of c.filling (between c.from c.to ts) ≡ element name attrs ending kids mark ∷ [] →
      spot_at (list ++ c.from ∷ []) (root_after list c root)
      ≡ Some (at_spot (element name attrs ending kids mark))
  came_stands m list c root ts d name attrs ending kids mark e =
      let t = element name attrs ending kids mark in
      let is : list_after c ts ≡ take c.from ts ++ (t ∷ drop c.to ts) =
      ap (λ (l : List (Tree M)). take c.from ts ++ (l ++ drop c.to ts)) e in
      let at : slice_get (list_after c ts) c.from ≡ Some t =
      ap (λ (l : List (Tree M)). slice_get l c.from) is
      ∙ ap (slice_get (take c.from ts ++ (t ∷ drop c.to ts)))
      (sym (front-length ts c.from c.to d.order d.within))
      ∙ get-middle (take c.from ts) (drop c.to ts) t in
      let kid : slice_get (kids_at list (root_after list c root)) c.from ≡ Some t =
      ap (λ o. slice_get (items_of o) c.from) (list_stands m list c root ts d) ∙ at in
      spot-kid list c.from (root_after list c root) ∙ ap (option_map at_spot) kid

  -- and its list
  pub inner_stands : (m : M) (list : List ℕ) (c : Change M) (root : Tree M) (ts : List (Tree M)) →
      Made m list c root ts →
      (name attrs : List ℕ) (ending : Ending) (kids : Forest M) (mark : M) →
      in_place_of c.filling (between c.from c.to ts) ≡ element name attrs ending kids mark ∷ [] →
      list_at (list ++ c.from ∷ []) (root_after list c root) ≡ Some (trees_of kids)
  inner_stands m list c root ts d name attrs ending kids mark e =
      spot_list (list ++ c.from ∷ []) (root_after list c root) (element name attrs ending kids mark)
      (came_stands m list c root ts d name attrs ending kids mark e)

  -- ---- an element that came
  pub record IsOne (new : List (Tree M)) : Type 0 where
    pub name : List ℕ
    pub attrs : List ℕ
    pub ending : Ending
    pub kids : Forest M
    pub mark : M
    pub is_one : new ≡ element name attrs ending kids mark ∷ []

  one_tree : (t : Tree M) → is_element t ≡ true → IsOne (t ∷ [])
  one_tree (element x a e ks m) h =
      record { name = x; attrs = a; ending = e; kids = ks; mark = m; is_one = refl }
  one_tree (text_node us) h = absurd cc
  one_tree (cdata_node b) h = absurd cc
  one_tree (misc_node b) h = absurd cc

  one_of : (trees : List (Tree M)) → list_any is_element trees ≡ true → length trees ≡ 1 →
      IsOne trees
  one_of [] h n = absurd cc
  one_of (t ∷ []) h n = one_tree t (search_any t h)
    where
      search_any : (t : Tree M) → list_any is_element (t ∷ []) ≡ true → is_element t ≡ true
      search_any (element x a e ks m) h = refl
      search_any (text_node us) h = absurd cc
      search_any (cdata_node b) h = absurd cc
      search_any (misc_node b) h = absurd cc
  one_of (t ∷ u ∷ ts) h n = absurd (omega arith)

  named_one : (x : List ℕ) (old : List (Tree M)) → is_one_element old ≡ true →
      IsOne (map (with_name x) old)
  named_one x [] h = absurd cc
  named_one x (element y a e ks m ∷ []) h =
      record { name = x; attrs = a; ending = e; kids = ks; mark = m; is_one = refl }
  named_one x (text_node us ∷ []) h = absurd cc
  named_one x (cdata_node b ∷ []) h = absurd cc
  named_one x (misc_node b ∷ []) h = absurd cc
  named_one x (t ∷ u ∷ ts) h = absurd cc

  pub brought : (filling : Filling M) (old : List (Tree M)) → BringsBare filling →
      CanFill filling old → brings_element filling ≡ true → IsOne (in_place_of filling old)
  brought (others trees) old b f e = one_of trees e (b.1 e)
  brought (around name attrs ending mark) old b f e =
      record {
        name = name;
        attrs = attrs;
        ending = ending;
        kids = forest_of old;
        mark = mark;
        is_one = refl;
      }
  brought inner old b f e = absurd cc
  brought (named name) old b f e = named_one name old f

-- the paths of the changed lists
abbrev pub lists_by : {M : Type 0} → Change M → Bool → List (List ℕ)
lists_by c true = c.list ∷ (c.list ++ c.from ∷ []) ∷ []
lists_by c false = c.list ∷ []

pub lists_are : {M : Type 0} (c : Change M) (b : Bool) → brings_element c.filling ≡ b →
    lists_by c b ≡ lists_changed c
lists_are c true e = rw e refl
lists_are c false e = rw e refl

module _ (g : PlainDtd) (doc : PlainDoc Mark) (c : Change Mark) (bare : BringsBare c.filling)
    (ts : List (Tree Mark)) (d : Made doc.mark c.list c doc.root ts) where
  abbrev after : PlainDoc Mark
  after = doc_after c doc

  same_kids : kids_at c.list doc.root ≡ ts
  same_kids = owner-kids d.owner

  -- narrow by what comes, and at its path
  outer_at : FitsVerdict g (length (word_of g (forest_of (list_after c ts)))) →
      IsNarrowAt g after c.list
  outer_at h kids e =
      let s = list_stands doc.mark c.list c doc.root ts d in
      let same : list_after c ts ≡ kids = cc in
      subst (λ (k : List (Tree Mark)). FitsVerdict g (length (word_of g (forest_of k)))) same h

  at_outer : IsNarrowAt g after c.list →
      FitsVerdict g (length (word_of g (forest_of (list_after c ts))))
  at_outer h = h (list_after c ts) (list_stands doc.mark c.list c doc.root ts d)

  module _ (o : IsOne (in_place_of c.filling (between c.from c.to ts))) where
    stands : list_at (c.list ++ c.from ∷ []) after.root ≡ Some (trees_of o.kids)
    stands =
        inner_stands doc.mark c.list c doc.root ts d o.name o.attrs o.ending o.kids o.mark o.is_one

    inner_at : FitsVerdict g (length (word_of g o.kids)) →
        IsNarrowAt g after (c.list ++ c.from ∷ [])
    inner_at h kids e =
        let s = stands in
        let same : trees_of o.kids ≡ kids = cc in
        let w : FitsVerdict g (length (word_of g (forest_of (trees_of o.kids)))) =
        rw (forest-trees o.kids) h in
        subst (λ (k : List (Tree Mark)). FitsVerdict g (length (word_of g (forest_of k)))) same w

    at_inner : IsNarrowAt g after (c.list ++ c.from ∷ []) →
        FitsVerdict g (length (word_of g o.kids))
    at_inner h =
        let w : FitsVerdict g (length (word_of g (forest_of (trees_of o.kids)))) =
        h (trees_of o.kids) stands in
        rw (forest-trees o.kids) at w

  paths_by : (b : Bool) → brings_element c.filling ≡ b → AreNarrowAfter g c ts →
      AllByRecursion (IsNarrowAt g after) (lists_by c b)
  paths_by false e n = (outer_at n.outer, tt)
  paths_by true e n =
      let o = brought c.filling (between c.from c.to ts) bare d.fits e in (
        outer_at n.outer,
        (inner_at o (n.inner e o.name o.attrs o.ending o.kids o.mark o.is_one), tt),
      )

  by_paths : (b : Bool) → brings_element c.filling ≡ b →
      AllByRecursion (IsNarrowAt g after) (lists_by c b) → AreNarrowAfter g c ts
  by_paths false e n =
      record {
        outer = at_outer n.0;
        inner = λ y x a en ks m is. absurd (let z : false ≡ true = cc in cc);
      }
  by_paths true e n = record {
    outer = at_outer n.0;
    inner =
        λ y x a en ks m is.
        at_inner (record {
          name = x;
          attrs = a;
          ending = en;
          kids = ks;
          mark = m;
          is_one = is;
        }) n.1.0;
  }

  pub narrow_paths : AreNarrowAfter g c (kids_at c.list doc.root) →
      AllByRecursion (IsNarrowAt g after) (lists_changed c)
  narrow_paths n =
      subst (AllByRecursion (IsNarrowAt g after)) (lists_are c (brings_element c.filling) refl)
      (paths_by (brings_element c.filling) refl (rw same_kids at n))

  pub paths_narrow : AllByRecursion (IsNarrowAt g after) (lists_changed c) →
      AreNarrowAfter g c (kids_at c.list doc.root)
  paths_narrow n =
      rw same_kids
      (by_paths (brings_element c.filling) refl
      (subst (AllByRecursion (IsNarrowAt g after))
      (sym (lists_are c (brings_element c.filling) refl)) n))
