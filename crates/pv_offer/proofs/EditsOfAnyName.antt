-- What an edit does that doesn't depend on which name it gives.
use Rattle.std.proofs.Common.{Bool, List, None, Option, Some, [], ap, arith, drop, inl, inr, length, map, nat_lt, not, refl, subst, suc, sym, take}
use Rattle.std.proofs.Common.{true, zero, ℕ, ◌&&◌, ◌++◌, ◌==◌, ◌||◌, ◌∙◌, ◌∷◌, ◌≡◌, ◌≤◌, codes}
use Rattle.std.proofs.lemmas.List.{map-append}
use Rattle.std.proofs.lemmas.List.Edits.{split_between}
use Rattle.std.specs.List.{AllByRecursion, Contains, between}
use Rattle.std.specs.Option.{option_and_then, option_map}
use Rattle.std.specs.Str.{chars, is_utf8}
use lib.Utf8.{encode}
use Rattle.pv_cache.specs.AcceptedEdits.{IsHoldable, IsNarrowAt, IsWithinLimits}
use Rattle.pv_cache.specs.Moves.{HasGround}
use Rattle.pv_cache.specs.Stamps.{StampedDoc}
use Rattle.pv_cache.specs.GroundLaws.{AcceptedHasNoGround}
use Rattle.pv_dtd.specs.Plain.{PlainDtd}
use Rattle.pv_edit.specs.ChangedLists.{changed_lists, makes}
use Rattle.pv_edit.specs.Changes.{doc_after, in_place_of, list_after, root_after, with_name}
use Rattle.pv_edit.specs.Effects.{change_of}
use Rattle.pv_edit.specs.GivenNames.{is_new_name}
use Rattle.pv_edit.specs.Reasons.{Outcome, edit_outcome, gives, goes_too_deep, is_top, kids_at, lacks_element, lacks_list, lacks_node, outcome, reason_of, refuses, unless}
use Rattle.pv_edit.specs.declared.answers.EditAnswer.TheVariants as answer
use Rattle.pv_edit.specs.declared.asks.Ask.{Ask}
use Rattle.pv_edit.specs.declared.asks.Ask.TheVariants.{Rename, Wrap}
use Rattle.pv_edit.specs.declared.reasons.Reason.{Reason}
use Rattle.pv_edit.specs.declared.reasons.Reason.TheVariants.{BadName, Deep, NoNode, NotElement, Range, RootShape}
use Rattle.pv_missing.specs.Widths.{FitsVerdict, IsListForVerdict}
use Rattle.pv_offer.specs.Laws.{AskedHasNoGround, HasOneOfferGround, LimitsDontTellNames, ReasonsDontTellNames, RenamesAreWithin, TriedAsOffered}
use Rattle.pv_offer.specs.Offers.{CanBeAsked, HasOfferGround, IsRefusedBy, edit_with}
use Rattle.pv_offer.specs.declared.errors.OfferError.TheVariants.{Limit, NoMemory, Shape}
use Rattle.pv_offer.proofs.Outlines.{depth_outline, list_outline, nodes_outline, outline, outlines, root_alike, root_kept, words_long}
use Rattle.pv_tree.specs.Laws.{ListsStandAtPaths}
use Rattle.pv_tree.specs.Lists.{Listed, Owner, an_element, lists_of, the_document}
use Rattle.pv_tree.specs.Legal.{MAX_DEPTH}
use Rattle.pv_tree.specs.Places.{IsListAt, at_node, list_at, list_of, node_below, owner_of, spot_at}
use Rattle.pv_tree.specs.Plain.{PlainDoc, Tree, cdata_node, depth_of, element, forest_of, misc_node, nodes_in, text_node}
use Rattle.pv_tree.specs.Words.{word_of}
use Rattle.pv_tree.proofs.JoinedLists.{contains_cases}
use Rattle.pv_tree.proofs.Levels.{trees-forest}

lists_alike : (ask : Ask) (x y : List ℕ) → changed_lists (makes (edit_with ask x)) ≡ changed_lists (makes (edit_with ask y))
lists_alike (Wrap path from to) x y = refl
lists_alike (Rename path) x y = refl

every : {A : Type 0} (P : A → Type 0) (xs : List A) (x : A) → AllByRecursion P xs → Contains xs x → P x
every P [] x all (k, lt, e) = absurd (omega arith)
every P (y ∷ ys) x all has = elim (contains_cases y ys x has) [
  | inl same ↦ subst P same all.0
  | inr later ↦ every P ys x all.1 later
]

module _ {M : Type 0} where
  out_refuses : (o : Option Reason) (d : PlainDoc M) (r : Reason) → outcome o d ≡ refuses r → o ≡ Some r
  out_refuses None d r h = absurd cc
  out_refuses (Some s) d r h = let e : s ≡ r = cc in ap Some e

  out_gives : (o : Option Reason) (d e : PlainDoc M) → outcome o d ≡ gives e → d ≡ e
  out_gives None d e h = cc
  out_gives (Some s) d e h = absurd cc

  -- ---- limits by outlines
  narrow_alike : (g : PlainDtd) (doc other : PlainDoc M) → outline doc.root ≡ outline other.root → (path : List ℕ) → IsNarrowAt g doc path → IsNarrowAt g other path
  narrow_alike g doc other same path h kids e = by (list_at path doc.root) refl (sym (list_outline path doc.root) ∙ ap (list_at path) same ∙ list_outline path other.root ∙ ap (option_map outlines) e)
    where
      by : (o : Option (List (Tree M))) → list_at path doc.root ≡ o → option_map outlines o ≡ Some (outlines kids) → FitsVerdict g (length (word_of g (forest_of kids)))
      by None is l = absurd cc
      by (Some had) is l =
          let m : outlines had ≡ outlines kids = cc in
          subst (FitsVerdict g) (words_long g had kids m) (h had is)

  all_narrow : (g : PlainDtd) (doc other : PlainDoc M) → outline doc.root ≡ outline other.root →
      (paths : List (List ℕ)) → AllByRecursion (IsNarrowAt g doc) paths →
      AllByRecursion (IsNarrowAt g other) paths
  all_narrow g doc other same [] h = tt
  all_narrow g doc other same (path ∷ paths) h = (narrow_alike g doc other same path h.0, all_narrow g doc other same paths h.1)

  -- documents of one outline are within the same limits
  within_alike : (g : PlainDtd) (doc other : PlainDoc M) → outline doc.root ≡ outline other.root → (paths : List (List ℕ)) → IsWithinLimits g doc paths → IsWithinLimits g other paths
  within_alike g doc other same paths w =
      let nodes : nodes_in other.root ≡ nodes_in doc.root = sym (nodes_outline other.root) ∙ ap nodes_in (sym same) ∙ nodes_outline doc.root in
      record { few = rw nodes w.few; narrow = all_narrow g doc other same paths w.narrow }

  -- the owner of the list at a path
  owner_there : (path : List ℕ) (root : Tree M) (kids : List (Tree M)) → list_at path root ≡ Some kids → (owner : Owner) × (option_and_then owner_of (spot_at path root) ≡ Some owner)
  owner_there [] root kids l = (the_document, refl)
  owner_there (zero ∷ path) root kids l = by (node_below path root) l
    where
      by : (o : Option (Tree M)) → option_and_then list_of o ≡ Some kids → (owner : Owner) × (option_and_then owner_of (option_map at_node o) ≡ Some owner)
      by None l = absurd cc
      by (Some (element x a e ks m)) l = (an_element x, refl)
      by (Some (text_node us)) l = absurd cc
      by (Some (cdata_node b)) l = absurd cc
      by (Some (misc_node b)) l = absurd cc
  owner_there (suc i ∷ path) root kids l = absurd cc

  -- where no list is too wide, none at a path is
  held_at : ListsStandAtPaths M → (g : PlainDtd) (doc : PlainDoc M) → AllByRecursion (IsListForVerdict g) (lists_of doc) → (path : List ℕ) → IsNarrowAt g doc path
  held_at stand g doc h path kids l =
      let (owner, is_owner) = owner_there path doc.root kids l in
      let list : Listed M = record { path = path; owner = owner; kids = forest_of kids } in
      let there : IsListAt doc.root list = record { has_owner = is_owner; has_kids = l ∙ ap Some (sym (trees-forest kids)) } in
      every (IsListForVerdict g) (lists_of doc) list h ((stand doc list).1 there)

  held_narrow : ListsStandAtPaths M → (g : PlainDtd) (doc : PlainDoc M) → AllByRecursion (IsListForVerdict g) (lists_of doc) → (paths : List (List ℕ)) → AllByRecursion (IsNarrowAt g doc) paths
  held_narrow stand g doc h [] = tt
  held_narrow stand g doc h (path ∷ paths) = (held_at stand g doc h path, held_narrow stand g doc h paths)

  -- ---- changes by names
  wrapped_lists : (blank : M) (root : Tree M) (path : List ℕ) (from to : ℕ) (x y : List ℕ) (ts : List (Tree M)) →
      outlines (list_after (change_of blank root (edit_with (Wrap path from to) x)) ts) ≡ outlines (list_after (change_of blank root (edit_with (Wrap path from to) y)) ts)
  wrapped_lists blank root path from to x y ts =
      let c = change_of blank root (edit_with (Wrap path from to) x) in
      let d = change_of blank root (edit_with (Wrap path from to) y) in
      map-append outline (take from ts) (in_place_of c.filling (between from to ts) ++ drop to ts) ∙ sym (map-append outline (take from ts) (in_place_of d.filling (between from to ts) ++ drop to ts))

  wrapped_alike : (blank : M) (root : Tree M) (path : List ℕ) (from to : ℕ) (x y : List ℕ) →
      outline (root_after path (change_of blank root (edit_with (Wrap path from to) x)) root) ≡ outline (root_after path (change_of blank root (edit_with (Wrap path from to) y)) root)
  wrapped_alike blank root path from to x y =
      root_alike path (change_of blank root (edit_with (Wrap path from to) x)) (change_of blank root (edit_with (Wrap path from to) y)) root (wrapped_lists blank root path from to x y)

  named_outline : (x : List ℕ) (t : Tree M) → outline (with_name x t) ≡ outline t
  named_outline x (element y a e ks m) = refl
  named_outline x (text_node us) = refl
  named_outline x (cdata_node b) = refl
  named_outline x (misc_node b) = refl

  named_outlines : (x : List ℕ) (ts : List (Tree M)) → outlines (map (with_name x) ts) ≡ outlines ts
  named_outlines x [] = refl
  named_outlines x (t ∷ ts) = ap (λ u. u ∷ outlines (map (with_name x) ts)) (named_outline x t) ∙ ap (λ us. outline t ∷ us) (named_outlines x ts)

  renamed_list : (x : List ℕ) (i j : ℕ) (ts : List (Tree M)) → i ≤ j → outlines (take i ts ++ (map (with_name x) (between i j ts) ++ drop j ts)) ≡ outlines ts
  renamed_list x i j ts le =
      let mid = between i j ts in
      let inner : outlines (map (with_name x) mid ++ drop j ts) ≡ outlines (mid ++ drop j ts) =
      map-append outline (map (with_name x) mid) (drop j ts)
      ∙ ap (λ l. l ++ outlines (drop j ts)) (named_outlines x mid)
      ∙ sym (map-append outline mid (drop j ts)) in
      map-append outline (take i ts) (map (with_name x) mid ++ drop j ts)
      ∙ ap (λ l. outlines (take i ts) ++ l) inner ∙ sym (map-append outline (take i ts) (mid
      ++ drop j ts)) ∙ ap outlines (sym (split_between ts i j le))

  renamed_alike : (blank : M) (root : Tree M) (path x : List ℕ) →
      outline (root_after (change_of blank root (edit_with (Rename path) x)).list
      (change_of blank root (edit_with (Rename path) x)) root) ≡ outline root
  renamed_alike blank root path x =
      let c = change_of blank root (edit_with (Rename path) x) in
      root_kept c.list c root (λ ts. renamed_list x c.from c.to ts (omega arith))

  -- ---- reasons
  wrap_reason : (blank : M) (root : Tree M) (path : List ℕ) (from to : ℕ) (x y : List ℕ) → is_new_name x ≡ true → is_new_name y ≡ true →
      reason_of blank root (edit_with (Wrap path from to) x) ≡ reason_of blank root (edit_with (Wrap path from to) y)
  wrap_reason blank root path from to x y nx ny =
      let form = λ (b d : Bool). unless (lacks_node path root) NoNode (unless (lacks_list path root) NotElement (unless (nat_lt to from || nat_lt (length (kids_at path root)) to) Range
      (unless (not b) BadName (unless (is_top path && not ((from == 0) && (to == 1))) RootShape (unless d Deep None))))) in
      let cx = change_of blank root (edit_with (Wrap path from to) x) in
      let cy = change_of blank root (edit_with (Wrap path from to) y) in
      let depths : depth_of (root_after path cx root) ≡ depth_of (root_after path cy root) =
      sym (depth_outline (root_after path cx root))
      ∙ ap depth_of (wrapped_alike blank root path from to x y)
      ∙ depth_outline (root_after path cy root) in
      let deep : goes_too_deep cx root ≡ goes_too_deep cy root = ap (nat_lt MAX_DEPTH) depths in
      ap (λ b. form b (goes_too_deep cx root)) (nx ∙ sym ny) ∙ ap (form (is_new_name y)) deep

  rename_reason : (blank : M) (root : Tree M) (path x y : List ℕ) → is_new_name x ≡ true → is_new_name y ≡ true →
      reason_of blank root (edit_with (Rename path) x) ≡ reason_of blank root (edit_with (Rename path) y)
  rename_reason blank root path x y nx ny =
      let form = λ (b : Bool). unless (lacks_node path root) NoNode (unless (lacks_element path root) NotElement (unless (not b) BadName None)) in
      ap form (nx ∙ sym ny)

  reason_alike : (blank : M) (root : Tree M) (ask : Ask) (x y : List ℕ) → is_new_name x ≡ true → is_new_name y ≡ true → reason_of blank root (edit_with ask x) ≡ reason_of blank root (edit_with ask y)
  reason_alike blank root (Wrap path from to) x y nx ny = wrap_reason blank root path from to x y nx ny
  reason_alike blank root (Rename path) x y nx ny = rename_reason blank root path x y nx ny

  doc_alike : (blank : M) (doc : PlainDoc M) (ask : Ask) (x y : List ℕ) →
      outline (doc_after (change_of blank doc.root (edit_with ask x)) doc).root
      ≡ outline (doc_after (change_of blank doc.root (edit_with ask y)) doc).root
  doc_alike blank doc (Wrap path from to) x y = wrapped_alike blank doc.root path from to x y
  doc_alike blank doc (Rename path) x y = renamed_alike blank doc.root path x ∙ sym (renamed_alike blank doc.root path y)

  -- an edit that is refused, or not, with one Name is so with each
  pub refused_alike : (blank : M) (doc : PlainDoc M) (ask : Ask) (x y : List ℕ) (reason : Reason) → is_new_name x ≡ true → is_new_name y ≡ true →
      edit_outcome blank doc (edit_with ask x) ≡ refuses reason → edit_outcome blank doc (edit_with ask y) ≡ refuses reason
  refused_alike blank doc ask x y reason nx ny h =
      let r : reason_of blank doc.root (edit_with ask x) ≡ Some reason =
      out_refuses (reason_of blank doc.root (edit_with ask x))
      (doc_after (change_of blank doc.root (edit_with ask x)) doc) reason h in
      ap (λ o. outcome o (doc_after (change_of blank doc.root (edit_with ask y)) doc)) (sym (reason_alike blank doc.root ask x y nx ny) ∙ r)

  none_of_gives : (o : Option Reason) (d e : PlainDoc M) → outcome o d ≡ gives e → o ≡ None
  none_of_gives None d e h = refl
  none_of_gives (Some s) d e h = absurd cc

  pub given_alike : (blank : M) (doc edited : PlainDoc M) (ask : Ask) (x y : List ℕ) → is_new_name x ≡ true → is_new_name y ≡ true →
      edit_outcome blank doc (edit_with ask x) ≡ gives edited → edit_outcome blank doc (edit_with ask y) ≡ gives (doc_after (change_of blank doc.root (edit_with ask y)) doc)
  given_alike blank doc edited ask x y nx ny h =
      let r : reason_of blank doc.root (edit_with ask x) ≡ None = none_of_gives (reason_of blank doc.root (edit_with ask x)) (doc_after (change_of blank doc.root (edit_with ask x)) doc) edited h in
      ap (λ o. outcome o (doc_after (change_of blank doc.root (edit_with ask y)) doc)) (sym (reason_alike blank doc.root ask x y nx ny) ∙ r)

pub reasons_alike : (M : Type 0) → ReasonsDontTellNames M
reasons_alike M blank doc ask x y reason nx ny h = refused_alike blank doc ask x y reason nx ny h

pub limits_alike : (M : Type 0) → LimitsDontTellNames M
limits_alike M blank g doc edited other ask x y gx gy w =
    let ex : doc_after (change_of blank doc.root (edit_with ask x)) doc ≡ edited =
    out_gives (reason_of blank doc.root (edit_with ask x)) (doc_after (change_of blank doc.root
    (edit_with ask x)) doc) edited gx in
    let ey : doc_after (change_of blank doc.root (edit_with ask y)) doc ≡ other =
    out_gives (reason_of blank doc.root (edit_with ask y)) (doc_after (change_of blank doc.root
    (edit_with ask y)) doc) other gy in
    let same : outline edited.root ≡ outline other.root = ap (λ (d : PlainDoc M). outline d.root) (sym ex) ∙ doc_alike blank doc ask x y ∙ ap (λ (d : PlainDoc M). outline d.root) ey in
    subst (IsWithinLimits g other) (lists_alike ask x y) (within_alike g edited other same (changed_lists (makes (edit_with ask x))) w)

pub renames_within : (M : Type 0) → ListsStandAtPaths M → RenamesAreWithin M
renames_within M stand blank g doc edited path x held h =
    let e : doc_after (change_of blank doc.root (edit_with (Rename path) x)) doc ≡ edited =
    out_gives (reason_of blank doc.root (edit_with (Rename path) x))
    (doc_after (change_of blank doc.root (edit_with (Rename path) x)) doc) edited h in
    let same : outline doc.root ≡ outline edited.root = sym (renamed_alike blank doc.root path x) ∙ ap (λ (d : PlainDoc M). outline d.root) e in
    let paths = changed_lists (makes (edit_with (Rename path) x)) in
    within_alike g doc edited same paths (record { few = held.few; narrow = held_narrow stand g doc held.narrow paths })

-- ---- grounds
-- a Name
pub a_name : is_new_name (codes "a") ≡ true
unfolding is_utf8 chars encode
a_name = refl

given_once : {M : Type 0} (o : Outcome M) (x y : PlainDoc M) → o ≡ gives x → o ≡ gives y → x ≡ y
given_once o x y a b = cc

never_both : {M : Type 0} (o : Outcome M) (x : PlainDoc M) (r : Reason) → o ≡ gives x → o ≡ refuses r → ⊥
never_both o x r a b = absurd cc

pub no_ground : AskedHasNoGround
no_ground s ask (Shape reason) can h =
    let (d, e, w) = can (codes "a") a_name in
    absurd (never_both (edit_outcome 0 s.doc (edit_with ask (codes "a"))) d reason e (h (codes "a") a_name))
no_ground s ask Limit can (w, h) =
    let (x, y, z) = can (codes "a") a_name in
    let (d, e, n) = h (codes "a") a_name in
    absurd (n (subst (λ (x : PlainDoc ℕ). IsWithinLimits s.dtd x (changed_lists (makes (edit_with ask (codes "a"))))) (given_once (edit_outcome 0 s.doc (edit_with ask (codes "a"))) x d y e) z))
no_ground s ask NoMemory can h = refl

pub tried_as_offered : AcceptedHasNoGround ℕ ℕ → TriedAsOffered
tried_as_offered none s ask x (answer.Shape reason) can nx h n =
    let (d, e, w) = can x nx in
    absurd (never_both (edit_outcome 0 s.doc (edit_with ask x)) d reason e h)
tried_as_offered none s ask x answer.Limit can nx (d, e, w) n =
    let (y, f, z) = can x nx in
    absurd (w (subst (λ (u : PlainDoc ℕ). IsWithinLimits s.dtd u (changed_lists (makes (edit_with ask x)))) (given_once (edit_outcome 0 s.doc (edit_with ask x)) y d f e) z))
tried_as_offered none s ask x (answer.Impossible path) can nx h n =
    ((λ (d, a). n (none 0 0 s.dtd s.root s.doc s.doc (edit_with ask x) d (answer.Impossible path) refl a h)), (path, refl))
tried_as_offered none s ask x answer.NoMemory can nx h n = absurd (n refl)

refused_once : {M : Type 0} (o : Outcome M) (r q : Reason) → o ≡ refuses r → o ≡ refuses q → r ≡ q
refused_once o r q a b = cc

pub one_offer_ground : HasOneOfferGround
one_offer_ground s ask (Shape reason) (Shape other) h k here there =
    ap Shape (refused_once (edit_outcome 0 s.doc (edit_with ask (codes "a"))) reason other (h (codes "a") a_name) (k (codes "a") a_name))
one_offer_ground s ask (Shape reason) Limit h (w, k) here there =
    let (d, e, n) = k (codes "a") a_name in
    absurd (never_both (edit_outcome 0 s.doc (edit_with ask (codes "a"))) d reason e (h (codes "a") a_name))
one_offer_ground s ask (Shape reason) NoMemory h k here there = absurd (there refl)
one_offer_ground s ask Limit (Shape reason) (w, h) k here there =
    let (d, e, n) = h (codes "a") a_name in
    absurd (never_both (edit_outcome 0 s.doc (edit_with ask (codes "a"))) d reason e (k (codes "a") a_name))
one_offer_ground s ask Limit Limit h k here there = refl
one_offer_ground s ask Limit NoMemory h k here there = absurd (there refl)
one_offer_ground s ask NoMemory other h k here there = absurd (here refl)

-- ---- what one name shows
module _ (s : StampedDoc) (ask : Ask) where
  pub asked_by : (edited : PlainDoc ℕ) → edit_outcome 0 s.doc (edit_with ask (codes "a"))
      ≡ gives edited → IsWithinLimits s.dtd edited
      (changed_lists (makes (edit_with ask (codes "a")))) → CanBeAsked s ask
  asked_by edited e w x nx =
      let other = doc_after (change_of 0 s.doc.root (edit_with ask x)) s.doc in
      let given = given_alike 0 s.doc edited ask (codes "a") x a_name nx e in
      (other, given, limits_alike ℕ 0 s.dtd s.doc edited other ask (codes "a") x e given w)

  pub shape_by : (reason : Reason) → edit_outcome 0 s.doc (edit_with ask (codes "a")) ≡ refuses reason → HasOfferGround s ask (Shape reason)
  shape_by reason h x nx = refused_alike 0 s.doc ask (codes "a") x reason a_name nx h

limit_for : (s : StampedDoc) (ask : Ask) → HasGround 0 s.dtd s.root s.doc (edit_with ask (codes "a")) answer.Limit → IsRefusedBy s ask answer.Limit
limit_for s ask (d, e, n) x nx =
    let other = doc_after (change_of 0 s.doc.root (edit_with ask x)) s.doc in
    let given = given_alike 0 s.doc d ask (codes "a") x a_name nx e in
    (other, given, λ w. n (limits_alike ℕ 0 s.dtd s.doc other d ask x (codes "a") given e w))

pub limit_by : RenamesAreWithin ℕ → (s : StampedDoc) (ask : Ask) → IsHoldable s.dtd s.doc → HasGround 0 s.dtd s.root s.doc (edit_with ask (codes "a")) answer.Limit → HasOfferGround s ask Limit
limit_by within s (Wrap path from to) held h = (tt, limit_for s (Wrap path from to) h)
limit_by within s (Rename path) held (d, e, n) = absurd (n (within 0 s.dtd s.doc d path (codes "a") held e))
