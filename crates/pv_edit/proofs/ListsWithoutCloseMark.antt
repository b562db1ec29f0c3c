-- Lists in which no run of texts spells `]]>`.
use Rattle.std.proofs.Common.{◌≡◌, ◌∙◌, ap, sym, refl, ℕ, true, false, not, ◌&&◌, ◌||◌, List, [], ◌∷◌, ◌++◌, Option, Some, None}
use Rattle.std.specs.Prelude.{is_none, option_and_then}
use Rattle.std.proofs.lemmas.Bool.{and_parts, and_from, or_parts, not-true, not_from_false}
use Rattle.pv_chars.specs.Texts.{begins_close_mark, holds_close_mark}
use Rattle.pv_tree.specs.Plain.{Tree, element, text_node, cdata_node, misc_node, Forest, no_trees, tree, forest_of, is_element}
use Rattle.pv_tree.specs.Legal.{front_units, is_open, has_no_close_mark, have_no_close_mark, starts_no_close_mark}
use Rattle.pv_edit.specs.Changes.{change_kid}
use Rattle.pv_edit.specs.CloseMarks.{after_unit, search_units, search_trees}
use Rattle.pv_edit.specs.Reasons.{spells_close_mark}
use Rattle.pv_edit.specs.declared.close_marks.Brackets.{Brackets}
use Rattle.pv_edit.specs.declared.close_marks.Brackets.TheVariants.{Zero}
use Rattle.pv_edit.proofs.CloseMarkSearch.{run_searched, searched_on}
use Rattle.pv_edit.proofs.NodePlaces.{KidAt, first, later}
use Rattle.pv_edit.proofs.EachNode.{EachNode, EachNodes, StaysAbove}

-- no run of texts in the list of an element spells it
abbrev pub Unbroken : {M : Type 0} → Tree M → Type 0
Unbroken (element x attrs e kids m) = spells_close_mark kids ≡ false
Unbroken (text_node units) = Unit {0}
Unbroken (cdata_node bytes) = Unit {0}
Unbroken (misc_node bytes) = Unit {0}

-- ---- a kid that stays an element
pub front-element : {M : Type 0} (t : Tree M) (rest : Forest M) → is_element t ≡ true → front_units (tree t rest) ≡ []
front-element (element x attrs e kids m) rest h = refl
front-element (text_node units) rest h = absurd cc
front-element (cdata_node bytes) rest h = absurd cc
front-element (misc_node bytes) rest h = absurd cc

front-same : {M : Type 0} (t : Tree M) (rest other : Forest M) → front_units rest ≡ front_units other → front_units (tree t rest) ≡ front_units (tree t other)
front-same (element x attrs e kids m) rest other h = refl
front-same (text_node units) rest other h = ap (λ l. units ++ l) h
front-same (cdata_node bytes) rest other h = refl
front-same (misc_node bytes) rest other h = refl

fronts-stay : {M : Type 0} {i : ℕ} {kids : Forest M} {k : Tree M} (g : Tree M → Tree M) →
    KidAt i kids k → is_element k ≡ true → is_element (g k) ≡ true →
    front_units (change_kid g i kids) ≡ front_units kids
fronts-stay g (first {t = t} {rest = rest}) h p = front-element (g t) rest p ∙ sym (front-element t rest h)
fronts-stay g (later {t = t} q) h p = front-same t _ _ (fronts-stay g q h p)

spells-stay : {M : Type 0} {i : ℕ} {kids : Forest M} {k : Tree M} (g : Tree M → Tree M) →
    KidAt i kids k → is_element k ≡ true → is_element (g k) ≡ true →
    spells_close_mark (change_kid g i kids) ≡ spells_close_mark kids
spells-stay g (first {t = t} {rest = rest}) h p = ap (λ l. holds_close_mark l || spells_close_mark rest) (fronts-stay g (first {t = t} {rest = rest}) h p)
spells-stay g (later {i = i} {t = t} {rest = rest} q) h p =
    ap (λ l. holds_close_mark l || spells_close_mark (change_kid g i rest)) (fronts-stay g (later {t = t} q) h p) ∙ ap (λ b. holds_close_mark (front_units (tree t rest)) || b) (spells-stay g q h p)

pub unbroken-stay : {M : Type 0} → StaysAbove {M = M} Unbroken
unbroken-stay = record { stays = λ x attrs e m g q h k p. spells-stay g q h k ∙ p }

-- ---- the test of a document
open-parts : (us after : List (List ℕ)) → is_open us after ≡ true → holds_close_mark after ≡ false → holds_close_mark (us ++ after) ≡ false
open-parts [] after h k = k
open-parts (u ∷ us) after h k =
    let p = and_parts (not (begins_close_mark (u ∷ us ++ after))) (is_open us after) h in
    ap (λ b. b || holds_close_mark (us ++ after)) (not-true (begins_close_mark (u ∷ us ++ after)) p.0) ∙ open-parts us after p.1 k

parts-open : (us after : List (List ℕ)) → holds_close_mark (us ++ after) ≡ false → is_open us after ≡ true
parts-open [] after h = refl
parts-open (u ∷ us) after h =
    let p = or_parts (begins_close_mark (u ∷ us ++ after)) (holds_close_mark (us ++ after)) h in
    and_from (not (begins_close_mark (u ∷ us ++ after))) (is_open us after) (not_from_false (begins_close_mark (u ∷ us ++ after)) p.0) (parts-open us after p.1)

front-none : {M : Type 0} (f : Forest M) → spells_close_mark f ≡ false → holds_close_mark (front_units f) ≡ false
front-none no_trees h = refl
front-none (tree t rest) h = (or_parts (holds_close_mark (front_units (tree t rest))) (spells_close_mark rest) h).0

starts-front : {M : Type 0} (t : Tree M) (rest : Forest M) → starts_no_close_mark t rest ≡ true → spells_close_mark rest ≡ false → holds_close_mark (front_units (tree t rest)) ≡ false
starts-front (element x attrs e kids m) rest h k = refl
starts-front (text_node units) rest h k = open-parts units (front_units rest) h (front-none rest k)
starts-front (cdata_node bytes) rest h k = refl
starts-front (misc_node bytes) rest h k = refl

front-starts : {M : Type 0} (t : Tree M) (rest : Forest M) → holds_close_mark (front_units (tree t rest)) ≡ false → starts_no_close_mark t rest ≡ true
front-starts (element x attrs e kids m) rest h = refl
front-starts (text_node units) rest h = parts-open units (front_units rest) h
front-starts (cdata_node bytes) rest h = refl
front-starts (misc_node bytes) rest h = refl

mutual
  pub close-each : {M : Type 0} (t : Tree M) → has_no_close_mark t ≡ true → EachNode Unbroken t
  close-each (element x attrs e kids m) h = all-close-each kids h
  close-each (text_node units) h = tt
  close-each (cdata_node bytes) h = tt
  close-each (misc_node bytes) h = tt

  all-close-each : {M : Type 0} (f : Forest M) → have_no_close_mark f ≡ true → (spells_close_mark f ≡ false) × EachNodes Unbroken f
  all-close-each no_trees h = (refl, tt)
  all-close-each (tree t rest) h =
      let p = and_parts (has_no_close_mark t && starts_no_close_mark t rest) (have_no_close_mark rest) h in
      let q = and_parts (has_no_close_mark t) (starts_no_close_mark t rest) p.0 in
      let r = all-close-each rest p.1 in
      (ap (λ b. b || spells_close_mark rest) (starts-front t rest q.1 r.0) ∙ r.0, (close-each t q.0, r.1))

mutual
  pub each-close : {M : Type 0} (t : Tree M) → EachNode Unbroken t → has_no_close_mark t ≡ true
  each-close (element x attrs e kids m) w = all-each-close kids w.0 w.1
  each-close (text_node units) w = refl
  each-close (cdata_node bytes) w = refl
  each-close (misc_node bytes) w = refl

  all-each-close : {M : Type 0} (f : Forest M) → spells_close_mark f ≡ false → EachNodes Unbroken f → have_no_close_mark f ≡ true
  all-each-close no_trees h w = refl
  all-each-close (tree t rest) h w =
      let p = or_parts (holds_close_mark (front_units (tree t rest))) (spells_close_mark rest) h in
      and_from (has_no_close_mark t && starts_no_close_mark t rest) (have_no_close_mark rest)
      (and_from (has_no_close_mark t) (starts_no_close_mark t rest) (each-close t w.0) (front-starts t rest p.0)) (all-each-close rest p.1 w.1)

-- ---- parts of a list
pub back-none : {M : Type 0} (xs ys : List (Tree M)) → spells_close_mark (forest_of (xs ++ ys)) ≡ false → spells_close_mark (forest_of ys) ≡ false
back-none [] ys h = h
back-none (x ∷ xs) ys h = back-none xs ys (or_parts (holds_close_mark (front_units (forest_of (x ∷ xs ++ ys)))) (spells_close_mark (forest_of (xs ++ ys))) h).1

-- the search of a front that is followed by something
front-found : {M : Type 0} (ys : List (Tree M)) (o : Option Brackets) → is_none (option_and_then (λ c. search_trees c ys) o) ≡ false → (b : Brackets) × (o ≡ Some b)
front-found ys None h = absurd cc
front-found ys (Some b) h = (b, refl)

pub front-search : {M : Type 0} (xs ys : List (Tree M)) → spells_close_mark (forest_of (xs ++ ys)) ≡ false → (b : Brackets) × (search_trees Zero xs ≡ Some b)
front-search xs ys h = front-found ys (search_trees Zero xs) (ap is_none (sym (searched_on Zero xs ys)) ∙ run_searched (xs ++ ys) ∙ h)

pub front-only : {M : Type 0} (xs ys : List (Tree M)) → spells_close_mark (forest_of (xs ++ ys)) ≡ false → spells_close_mark (forest_of xs) ≡ false
front-only xs ys h = let f = front-search xs ys h in sym (run_searched xs) ∙ ap is_none f.1

-- an element in place of anything
pub element-between : {M : Type 0} (front old back : List (Tree M)) (t : Tree M) →
    is_element t ≡ true → spells_close_mark (forest_of (front ++ (old ++ back))) ≡ false →
    spells_close_mark (forest_of (front ++ t ∷ back)) ≡ false
element-between front old back (element x attrs e kids m) k h =
    let f = front-search front (old ++ back) h in
    let b = back-none old back (back-none front (old ++ back) h) in
    sym (run_searched (front ++ element x attrs e kids m ∷ back))
    ∙ ap is_none (searched_on Zero front (element x attrs e kids m ∷ back)
    ∙ ap (option_and_then (λ c. search_trees c (element x attrs e kids m ∷ back))) f.1)
    ∙ run_searched back ∙ b
element-between front old back (text_node units) k h = absurd cc
element-between front old back (cdata_node bytes) k h = absurd cc
element-between front old back (misc_node bytes) k h = absurd cc

-- two texts side by side, or one
units-on : (b : Brackets) (us vs : List (List ℕ)) → search_units b (us ++ vs) ≡ option_and_then (λ c. search_units c vs) (search_units b us)
units-on b [] vs = refl
units-on b (u ∷ us) vs =
    elim (after_unit b u) as (λ o. option_and_then (λ c. search_units c (us ++ vs)) o ≡ option_and_then (λ c. search_units c vs) (option_and_then (λ c. search_units c us) o))
    [ None ↦ refl | Some c ↦ units-on c us vs ]

texts-search : {M : Type 0} (b : Brackets) (us vs : List (List ℕ)) (back : List (Tree M)) → search_trees b (text_node us ∷ text_node vs ∷ back) ≡ search_trees b (text_node (us ++ vs) ∷ back)
texts-search b us vs back =
    (elim (search_units b us) as (λ o. option_and_then (λ c. option_and_then
    (λ d. search_trees d back) (search_units c vs)) o ≡ option_and_then
    (λ d. search_trees d back) (option_and_then (λ c. search_units c vs) o))
    [ None ↦ refl | Some c ↦ refl ])
    ∙ ap (option_and_then (λ d. search_trees d back)) (sym (units-on b us vs))

pub texts-joined : {M : Type 0} (front : List (Tree M)) (us vs : List (List ℕ))
    (back : List (Tree M)) →
    spells_close_mark (forest_of (front ++ text_node us ∷ text_node vs ∷ back)) ≡ spells_close_mark
    (forest_of (front ++ text_node (us ++ vs) ∷ back))
texts-joined front us vs back =
    let two = text_node us ∷ text_node vs ∷ back in
    let one = text_node (us ++ vs) ∷ back in
    sym (run_searched (front ++ two)) ∙ ap is_none (searched_on Zero front two
    ∙ (elim (search_trees Zero front) as (λ o. option_and_then (λ c. search_trees c two) o ≡ option_and_then (λ c. search_trees c one) o) [ None ↦ refl | Some c ↦ texts-search c us vs back ])
    ∙ sym (searched_on Zero front one)) ∙ run_searched (front ++ one)
