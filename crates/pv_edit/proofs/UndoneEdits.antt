-- The inverse of each edit leads back.
use Rattle.std.proofs.Common.{◌≡◌, ◌≢◌, ◌∙◌, Bool, length-append, ap, sym, refl, ℕ, ◌+◌, ◌<◌, true, false, not, List, [], ◌∷◌, ◌++◌, length, take, drop, Option, Some, None, slice_get, arith, subst}
use Rattle.std.proofs.lemmas.List.{append-nil, take-append-drop}
use Rattle.std.proofs.lemmas.Option.{slice_get_within}
use Rattle.std.proofs.Math.Seq.{take-append_seam, drop-append_seam}
use Rattle.std.specs.List.{between}
use Rattle.std.specs.Option.{option_map}
use Rattle.pv_tree.specs.Plain.{Ending, short, tagged, Tree, element, text_node, Forest, forest_of, trees_of, is_element}
use Rattle.pv_tree.specs.Places.{Spot, spot_at}
use Rattle.pv_tree.specs.Places.{at_node as at_spot}
use Rattle.pv_tree.specs.Legal.{is_formed}
use Rattle.pv_tree.specs.Units.{HasUnits}
use Rattle.pv_edit.specs.Preparations.{HasTexts}
use Rattle.pv_edit.proofs.EachNode.{EachNodes, each-old, each-of-list}
use Rattle.pv_edit.proofs.NodeFacts.{United, units-each}
use Rattle.pv_tree.specs.PlainForms.{plain_end}
use Rattle.pv_tree.proofs.Levels.{trees-forest}
use Rattle.pv_edit.specs.Changes.{list_after, root_after}
use Rattle.pv_edit.specs.Effects.{change_of, parent_of, kid_place, next_of, units_on, units_at, one_text}
use Rattle.pv_edit.specs.Inverses.{end_of, put_back, inverse_of, change_back}
use Rattle.pv_edit.specs.Reasons.{is_spot, is_text, is_top, kids_at, lacks_text, reason_of}
use Rattle.pv_edit.specs.declared.edits.Edit.{Edit}
use Rattle.pv_edit.specs.declared.edits.Edit.TheVariants.{Wrap, Insert, Unwrap, Rename, Split, Join, SetText, AddText, DelText}
use Rattle.pv_edit.specs.declared.inverses.Inverse.{Inverse}
use Rattle.pv_edit.specs.declared.inverses.Inverse.TheVariants.{PutBack, Name, Merge, Divide, Text, Restore}
use Rattle.pv_edit.proofs.Levels.{forest-trees}
use Rattle.pv_edit.proofs.ListPlaces.{spot-kid, spot-parent}
use Rattle.pv_edit.proofs.ThreeParts.{get-front, get-more}
use Rattle.pv_edit.proofs.Paths.{parent-kid, place-kid}
use Rattle.pv_edit.proofs.DocumentAsElement.{Made, owner-kids}
use Rattle.pv_edit.proofs.CutParts.{between-kid, between-kids, between-none, front-length}
use Rattle.pv_edit.proofs.PassedEdits.{text-at, element-at, next-kid, text-inside, unwrap-passes, rename-passes, split-passes, join-passes, set-passes, del-passes}
use Rattle.pv_edit.proofs.MadeChanges.{never, wrap-made, insert-made, unwrap-made, rename-made, split-made, join-made, set-made, add-made, del-made}
use Rattle.pv_edit.proofs.UndoneChanges.{Undoes, owner-changed, back-made, root-back, short-owner, ends-same, ends-owner, top-unshort}

-- The second change can be made after the first, and leads back.
pub record Returns (root : Tree Unit) (edit : Edit) (inverse : Inverse) : Type 0 where
  pub path : List ℕ
  pub ts : List (Tree Unit)
  pub same : (change_back tt (root_after (change_of tt root edit).list (change_of tt root edit) root) inverse).list ≡ path
  pub made : Made tt path (change_back tt (root_after (change_of tt root edit).list (change_of tt root edit) root) inverse) (root_after (change_of tt root edit).list (change_of tt root edit) root) ts
  pub back : root_after path (change_back tt (root_after (change_of tt root edit).list
      (change_of tt root edit) root) inverse) (root_after (change_of tt root edit).list
      (change_of tt root edit) root) ≡ root
  pub ready : HasTexts (root_after (change_of tt root edit).list (change_of tt root edit) root) inverse

-- the root after the edit
abbrev pub edited : Tree Unit → Edit → Tree Unit
edited root edit = root_after (change_of tt root edit).list (change_of tt root edit) root

returns : (root : Tree Unit) (edit : Edit) (inverse : Inverse) (ts : List (Tree Unit)) (made : Made tt (change_of tt root edit).list (change_of tt root edit) root ts)
    → Undoes (change_of tt root edit) (change_back tt (edited root edit) inverse) (change_of tt root edit).list ts made.owner.ending → HasTexts (edited root edit) inverse → Returns root edit inverse
returns root edit inverse ts made u ready =
    let c = change_of tt root edit in
    let d = change_back tt (edited root edit) inverse in
    record { path = c.list; ts = list_after c ts; same = u.same; made = back-made c.list c d root ts made u; back = root-back c.list c d root ts made u; ready = ready }

wrap-returns : (root : Tree Unit) (path : List ℕ) (from to : ℕ) (name : List ℕ) →
    reason_of tt root (Wrap path from to name) ≡ None → Returns root (Wrap path from to name)
    (inverse_of root (Wrap path from to name))
wrap-returns root path from to name h =
    let ts = kids_at path root in
    let made = wrap-made tt tt root path from to name h in
    let c = change_of tt root (Wrap path from to name) in
    returns root (Wrap path from to name) (inverse_of root (Wrap path from to name)) ts made (record {
      same = parent-kid path from;
      from = place-kid path from;
      to = omega (arith, place-kid path from);
      fits = refl;
      back = append-nil (trees_of (forest_of (between from to ts))) ∙ trees-forest (between from to ts);
      ends = rw (short-owner path root ts made.owner) (ends-same made.owner.ending (list_after c ts) ts);
      unshort = top-unshort path root;
    }) tt

insert-returns : (root : Tree Unit) (path : List ℕ) (at : ℕ) (name : List ℕ) →
    reason_of tt root (Insert path at name) ≡ None → Returns root (Insert path at name)
    (inverse_of root (Insert path at name))
insert-returns root path at name h =
    let ts = kids_at path root in
    let made = insert-made tt tt root path at name h in
    let c = change_of tt root (Insert path at name) in
    returns root (Insert path at name) (inverse_of root (Insert path at name)) ts made (record {
      same = parent-kid path at;
      from = place-kid path at;
      to = omega (arith, place-kid path at);
      fits = refl;
      back = sym (between-none ts at);
      ends = rw (short-owner path root ts made.owner) (ends-same made.owner.ending (list_after c ts) ts);
      unshort = top-unshort path root;
    }) tt

add-returns : (root : Tree Unit) (path : List ℕ) (at : ℕ) (text : List ℕ) →
    reason_of tt root (AddText path at text) ≡ None → Returns root (AddText path at text)
    (inverse_of root (AddText path at text))
add-returns root path at text h =
    let ts = kids_at path root in
    let made = add-made tt tt root path at text h in
    let c = change_of tt root (AddText path at text) in
    returns root (AddText path at text) (inverse_of root (AddText path at text)) ts made (record {
      same = parent-kid path at;
      from = place-kid path at;
      to = omega (arith, place-kid path at);
      fits = tt;
      back = sym (between-none ts at);
      ends = rw (short-owner path root ts made.owner) (ends-same made.owner.ending (list_after c ts) ts);
      unshort = top-unshort path root;
    }) tt

end-same : (e : Ending) → plain_end (end_of e) ≡ e
end-same short = refl
end-same (tagged gap) = refl

around-same : (x attrs : List ℕ) (e : Ending) (kids : Forest Unit) (m : Unit) → element x attrs (plain_end (end_of e)) (forest_of (trees_of kids ++ [])) tt ≡ element x attrs e kids m
around-same x attrs e kids m =
    ap (λ f. element x attrs (plain_end (end_of e)) f tt) (ap forest_of (append-nil (trees_of kids)) ∙ forest-trees kids) ∙ ap (λ n. element x attrs n kids tt) (end-same e)

unwrap-returns : (root : Tree Unit) (path : List ℕ) → is_formed root ≡ true → reason_of tt root (Unwrap path) ≡ None → Returns root (Unwrap path) (inverse_of root (Unwrap path))
unwrap-returns root path f h =
    let list = parent_of path in
    let at = kid_place path in
    let ts = kids_at list root in
    let made = unwrap-made tt tt root path h in
    let c = change_of tt root (Unwrap path) in
    let e = element-at path root (unwrap-passes tt root path h).elem in
    let old = between-kid ts at _ e.kid in
    let w = slice_get_within ts at _ e.kid in
    subst (λ (i : Inverse). Returns root (Unwrap path) i) (ap (put_back list at) (sym e.there))
    (returns root (Unwrap path) (PutBack list at (at + length (trees_of e.kids)) e.name e.attrs (end_of e.ending)) ts made (record {
      same = refl;
      from = refl;
      to = rw old (ap (λ (l : List (Tree Unit)). at + length l) (sym (append-nil (trees_of e.kids))));
      fits = tt;
      back = rw old (ap (λ (t : Tree Unit). t ∷ []) (around-same e.name e.attrs e.ending e.kids e.mark));
      ends = ends-owner made.owner (list_after c ts) f at w;
      unshort = λ _. refl;
    }) tt)

rename-returns : (root : Tree Unit) (path name : List ℕ) → is_formed root ≡ true → reason_of tt root (Rename path name) ≡ None → Returns root (Rename path name) (inverse_of root (Rename path name))
rename-returns root path name f h =
    let list = parent_of path in
    let at = kid_place path in
    let ts = kids_at list root in
    let made = rename-made tt tt root path name h in
    let c = change_of tt root (Rename path name) in
    let e = element-at path root (rename-passes tt root path name h).elem in
    let old = between-kid ts at _ e.kid in
    let w = slice_get_within ts at _ e.kid in
    let there : inverse_of root (Rename path name) ≡ Name path e.name = rw e.there refl in
    subst (λ (i : Inverse). Returns root (Rename path name) i) (sym there)
    (returns root (Rename path name) (Name path e.name) ts made (record {
      same = refl;
      from = refl;
      to = rw old refl;
      fits = rw old refl;
      back = rw old refl;
      ends = ends-owner made.owner (list_after c ts) f at w;
      unshort = λ _. refl;
    }) tt)

not-top : (path : List ℕ) (root : Tree Unit) → lacks_text path root ≡ false → is_top path ≡ false
not-top [] root h = absurd cc
not-top (i ∷ path) root h = refl

-- a text of the changed list, and the one after it
spot-first : (path : List ℕ) (root : Tree Unit) (front back : List (Tree Unit))
    (u : List (List ℕ)) → is_top path ≡ false → kids_at (parent_of path) root ≡ front
    ++ text_node u ∷ back → length front ≡ kid_place path → spot_at path root ≡ Some (at_spot (text_node u))
spot-first path root front back u t k n =
    spot-parent path root t ∙ ap (λ l. option_map at_spot (slice_get l (kid_place path))) k ∙ ap (λ i. option_map at_spot (slice_get (front ++ text_node u ∷ back) i)) (sym n)
    ∙ ap (option_map at_spot) (get-front front back (text_node u))

spot-next : (path : List ℕ) (root : Tree Unit) (front back : List (Tree Unit))
    (u v : List (List ℕ)) → kids_at (parent_of path) root ≡ front
    ++ text_node u ∷ text_node v ∷ back → length front ≡ kid_place path →
    spot_at (next_of path) root ≡ Some (at_spot (text_node v))
spot-next path root front back u v k n =
    spot-kid (parent_of path) (kid_place path + 1) root ∙ ap (λ l. option_map at_spot (slice_get l (kid_place path + 1))) k
    ∙ ap (λ i. option_map at_spot (slice_get (front ++ text_node u ∷ text_node v ∷ back) (i + 1))) (sym n)
    ∙ ap (option_map at_spot) (get-more front (text_node v ∷ back) (text_node u))

abbrev is_lacking : Option (Spot Unit) → Bool
is_lacking o = not (is_spot is_text o)

some-length : (us : List (List ℕ)) → us ≢ [] → 0 < length us
some-length [] h = absurd (h refl)
some-length (u ∷ us) h = omega arith

split-returns : (root : Tree Unit) (path : List ℕ) (at : ℕ) → is_element root ≡ true →
    is_formed root ≡ true → reason_of tt root (Split path at) ≡ None →
    Returns root (Split path at) (inverse_of root (Split path at))
split-returns root path at r f h =
    let list = parent_of path in
    let i = kid_place path in
    let ts = kids_at list root in
    let made = split-made tt tt root path at r h in
    let c = change_of tt root (Split path at) in
    let p = split-passes tt root path at h in
    let e = text-at path root p.text in
    let old = between-kid ts i _ e.kid in
    let w = slice_get_within ts i _ e.kid in
    let n = front-length ts i (i + 1) made.order made.within in
    let u = units_at path root in
    let kids = owner-kids (owner-changed list c root ts made) in
    let spot = spot-first path (edited root (Split path at)) (take i ts) (text_node (drop at u) ∷ drop (i + 1) ts) (take at u) (not-top path root p.text) kids n in
    let next = spot-next path (edited root (Split path at)) (take i ts) (drop (i + 1) ts) (take at u) (drop at u) kids n in
    let first = ap units_on spot in
    let second = ap units_on next in
    returns root (Split path at) (Merge path) ts made (record {
      same = refl;
      from = refl;
      to = refl;
      fits = tt;
      back = rw (first, second) (ap one_text (take-append-drop at u ∙ e.are) ∙ sym old);
      ends = ends-owner made.owner (list_after c ts) f i w;
      unshort = λ t. never list (text-inside path root r p.text) t;
    })
    (ap is_lacking spot, ap is_lacking next)

join-returns : (root : Tree Unit) (path : List ℕ) → is_element root ≡ true → is_formed root ≡ true →
    HasUnits root → reason_of tt root (Join path) ≡ None →
    Returns root (Join path) (inverse_of root (Join path))
join-returns root path r f units h =
    let list = parent_of path in
    let i = kid_place path in
    let ts = kids_at list root in
    let made = join-made tt tt root path r h in
    let c = change_of tt root (Join path) in
    let p = join-passes tt root path h in
    let e = text-at path root p.text in
    let g = text-at (next_of path) root p.next in
    let next = next-kid path root g in
    let mid = between i (i + 2) ts in
    let old : mid ≡ text_node e.units ∷ text_node g.units ∷ [] = between-kids ts i _ _ e.kid next in
    let w = slice_get_within ts i _ e.kid in
    let n = front-length ts i (i + 2) made.order made.within in
    let u = units_at path root in
    let v = units_at (next_of path) root in
    let kids = owner-kids (owner-changed list c root ts made) in
    let spot = spot-first path (edited root (Join path)) (take i ts) (drop (i + 2) ts) (u ++ v) (not-top path root p.text) kids n in
    let first = ap units_on spot in
    let whole : mid ≡ text_node u ∷ text_node v ∷ [] = old
    ∙ ap (λ (a : List (List ℕ)). text_node a ∷ text_node g.units ∷ []) (sym e.are)
    ∙ ap (λ (b : List (List ℕ)). text_node u ∷ text_node b ∷ []) (sym g.are) in
    let some : (u ≢ []) × EachNodes (United {M = Unit}) (forest_of (text_node v ∷ [])) =
    subst (λ (l : List (Tree Unit)). EachNodes United (forest_of l)) whole (each-old United ts i
    (i + 2) made.order (each-of-list United made.owner (tt, (units-each root units, tt)))) in
    returns root (Join path) (Divide path (length u)) ts made (record {
      same = refl;
      from = refl;
      to = refl;
      fits = tt;
      back = rw (first, take-append_seam u v, drop-append_seam u v)
          (ap (λ (a : List (List ℕ)). text_node a ∷ text_node v ∷ []) e.are
          ∙ ap (λ (b : List (List ℕ)). text_node e.units ∷ text_node b ∷ []) g.are ∙ sym old);
      ends = ends-owner made.owner (list_after c ts) f i w;
      unshort = λ t. never list (text-inside path root r p.text) t;
    })
    (ap is_lacking spot, some-length u some.0, omega (arith, ap length first, length-append u v, some-length v some.1.0))

set-returns : (root : Tree Unit) (path text : List ℕ) → is_element root ≡ true →
    is_formed root ≡ true → reason_of tt root (SetText path text) ≡ None →
    Returns root (SetText path text) (inverse_of root (SetText path text))
set-returns root path text r f h =
    let list = parent_of path in
    let i = kid_place path in
    let ts = kids_at list root in
    let made = set-made tt tt root path text r h in
    let c = change_of tt root (SetText path text) in
    let p = set-passes tt root path text h in
    let e = text-at path root p.text in
    let old = between-kid ts i _ e.kid in
    let w = slice_get_within ts i _ e.kid in
    returns root (SetText path text) (Text path (units_at path root)) ts made (record {
      same = refl;
      from = refl;
      to = refl;
      fits = tt;
      back = ap one_text e.are ∙ sym old;
      ends = ends-owner made.owner (list_after c ts) f i w;
      unshort = λ t. never list (text-inside path root r p.text) t;
    }) tt

del-returns : (root : Tree Unit) (path : List ℕ) → is_element root ≡ true → is_formed root ≡ true →
    reason_of tt root (DelText path) ≡ None → Returns root (DelText path) (inverse_of root (DelText path))
del-returns root path r f h =
    let list = parent_of path in
    let i = kid_place path in
    let ts = kids_at list root in
    let made = del-made tt tt root path r h in
    let c = change_of tt root (DelText path) in
    let p = del-passes tt root path h in
    let e = text-at path root p.text in
    let old = between-kid ts i _ e.kid in
    let w = slice_get_within ts i _ e.kid in
    returns root (DelText path) (Restore path (units_at path root)) ts made (record {
      same = refl;
      from = refl;
      to = omega arith;
      fits = tt;
      back = ap one_text e.are ∙ sym old;
      ends = ends-owner made.owner (list_after c ts) f i w;
      unshort = λ t. never list (text-inside path root r p.text) t;
    }) tt

pub inverse-returns : (root : Tree Unit) (edit : Edit) → is_element root ≡ true → is_formed root ≡ true → HasUnits root → reason_of tt root edit ≡ None → Returns root edit (inverse_of root edit)
inverse-returns root (Wrap path from to name) r f u h = wrap-returns root path from to name h
inverse-returns root (Insert path at name) r f u h = insert-returns root path at name h
inverse-returns root (Unwrap path) r f u h = unwrap-returns root path f h
inverse-returns root (Rename path name) r f u h = rename-returns root path name f h
inverse-returns root (Split path at) r f u h = split-returns root path at r f h
inverse-returns root (Join path) r f u h = join-returns root path r f u h
inverse-returns root (SetText path text) r f u h = set-returns root path text r f h
inverse-returns root (AddText path at text) r f u h = add-returns root path at text h
inverse-returns root (DelText path) r f u h = del-returns root path r f h
