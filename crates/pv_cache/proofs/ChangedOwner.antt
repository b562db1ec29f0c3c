-- The owner of a changed list, updated.
use Rattle.std.proofs.Common.{◌≡◌, ◌∙◌, ap, sym, refl, ℕ, zero, suc, ◌≤◌, Bool, true, false, ◌||◌}
use Rattle.std.proofs.Common.{List, [], ◌∷◌, ◌++◌, length, take, drop, Option, Some, None, subst}
use Rattle.std.specs.List.{AllByRecursion, between, list_any}
use Rattle.pv_dtd.specs.Plain.{PlainDtd}
use Rattle.pv_edit.specs.BroughtElements.{brings_element}
use Rattle.pv_edit.specs.Changes.{Change, Filling, all_kids, around, change_kid, in_place_of, inner}
use Rattle.pv_edit.specs.Changes.{list_after, named, others, owner_after, with_name}
use Rattle.pv_edit.proofs.CutParts.{front-length}
use Rattle.pv_edit.proofs.Levels.{forest-trees}
use Rattle.pv_edit.proofs.StayingLists.{HaveNoKids, HasNoKids}
use Rattle.pv_missing.proofs.VerdictHeads.{same_word, verdict_by_heads}
use Rattle.pv_tree.specs.Heads.{head_of, heads_of}
use Rattle.pv_tree.specs.Lists.{Owner, an_element}
use Rattle.pv_tree.specs.Places.{kids_of}
use Rattle.pv_tree.specs.Plain.{Ending, Forest, Tree, cdata_node, element, forest_of, is_element}
use Rattle.pv_tree.specs.Plain.{misc_node, no_trees, text_node, tree, trees_of}
use Rattle.pv_tree.specs.declared.nodes.Mark.{Mark}
use Rattle.pv_tree.specs.declared.nodes.Verdict.{Verdict}
use Rattle.pv_cache.specs.VerdictsAfterChange.{AreJudged, IsJudged, IsInnerJudged, IsOneJudged}
use Rattle.pv_cache.specs.Updates.{fresh_mark, update_element, update_kids, update_owner}
use Rattle.pv_cache.specs.declared.updates.InnerVerdict.{InnerVerdict}
use Rattle.pv_cache.specs.WellMarked.{EachList, EachListIn, TellsList}
use Rattle.pv_cache.proofs.NodeLists.{all-joined, all-spliced, all-front, all-between, all-back}

updated-head : (v : Verdict) (stamp : ℕ) (t : Tree Mark) →
    head_of (update_element v stamp t) ≡ head_of t
updated-head v stamp (element x a e k m) = refl
updated-head v stamp (text_node us) = refl
updated-head v stamp (cdata_node b) = refl
updated-head v stamp (misc_node b) = refl

updated-heads : (v : Verdict) (stamp i : ℕ) (kids : Forest Mark) →
    heads_of (change_kid (update_element v stamp) i kids) ≡ heads_of kids
updated-heads v stamp i no_trees = refl
updated-heads v stamp zero (tree t rest) = ap (λ h. h ∷ heads_of rest) (updated-head v stamp t)
updated-heads v stamp (suc i) (tree t rest) = ap (λ l. head_of t ∷ l) (updated-heads v stamp i rest)

pub kids-heads : (inner : Option InnerVerdict) (stamp : ℕ) (kids : Forest Mark) →
    heads_of (update_kids inner stamp kids) ≡ heads_of kids
kids-heads None stamp kids = refl
kids-heads (Some i) stamp kids = updated-heads i.verdict stamp i.place kids

-- one tree among others, changed
pub among : (f : Tree Mark → Tree Mark) (xs ys : List (Tree Mark)) (n : Tree Mark) →
    change_kid f (length xs) (forest_of (xs ++ (n ∷ ys))) ≡ forest_of (xs ++ (f n ∷ ys))
among f [] ys n = refl
among f (x ∷ xs) ys n = ap (tree x) (among f xs ys n)

-- one of some trees without kids has none
pub bare : (ts : List (Tree Mark)) (n : Tree Mark) → AllByRecursion HasNoKids ts → ts ≡ n ∷ [] →
    kids_of n ≡ []
bare [] n h e = absurd cc
bare (t ∷ ts) n h e = let s : t ≡ n = cc in ap kids_of (sym s) ∙ h.0

module _ (g : PlainDtd) (root : List ℕ) where
  -- the mark of a list that was judged
  pub fresh-tells : (owner : Owner) (kids kids' : Forest Mark) (v : Verdict) (stamp : ℕ) →
      heads_of kids' ≡ heads_of kids → IsJudged g root owner kids v →
      TellsList g root owner kids' (fresh_mark owner kids' v stamp)
  fresh-tells owner kids kids' v stamp e b = record {
    judged =
        (verdict_by_heads Mark Mark g root (record { path = []; owner = owner; kids = kids })
        (record { path = []; owner = owner; kids = kids' }) v refl (sym e)).0 b.judged;
    narrow = rw (same_word g kids' kids e) b.narrow;
    left = refl;
    nodes = refl;
  }

  or-left : (a b : Bool) → (a || b) ≡ false → (a ≡ false) × (b ≡ false)
  or-left false b h = (refl, h)
  or-left true b h = absurd cc

  leaf-has : (t : Tree Mark) → is_element t ≡ false → EachList (TellsList g root) t
  leaf-has (element x a e k m) h = absurd cc
  leaf-has (text_node us) h = tt
  leaf-has (cdata_node b) h = tt
  leaf-has (misc_node b) h = tt

  leaves-have : (ts : List (Tree Mark)) → list_any is_element ts ≡ false →
      EachListIn (TellsList g root) (forest_of ts)
  leaves-have [] h = tt
  leaves-have (t ∷ ts) h =
      let b = or-left (is_element t) (list_any is_element ts) h in
      (leaf-has t b.0, leaves-have ts b.1)

  kids-have : (ts : List (Tree Mark)) → EachListIn (TellsList g root) (forest_of ts) →
      EachListIn (TellsList g root) (forest_of (all_kids ts))
  kids-have [] w = tt
  kids-have (element x a e k m ∷ ts) w =
      all-joined (TellsList g root) (trees_of k) (all_kids ts) (rw (forest-trees k) w.0.1)
      (kids-have ts w.1)
  kids-have (text_node us ∷ ts) w = kids-have ts w.1
  kids-have (cdata_node b ∷ ts) w = kids-have ts w.1
  kids-have (misc_node b ∷ ts) w = kids-have ts w.1

  -- what came is marked, where no element came
  none-came : (f : Filling Mark) (old : List (Tree Mark)) → brings_element f ≡ false →
      EachListIn (TellsList g root) (forest_of old) →
      EachListIn (TellsList g root) (forest_of (in_place_of f old))
  none-came (others trees) old h w = leaves-have trees h
  none-came (around name attrs ending mark) old h w = absurd cc
  none-came inner old h w = kids-have old w
  none-came (named name) old h w = absurd cc

  renamed-kids : (name : List ℕ) (t n : Tree Mark) → with_name name t ≡ n →
      EachList (TellsList g root) t → EachListIn (TellsList g root) (forest_of (kids_of n))
  renamed-kids name (element x a e k m) n s w = rw (← s, forest-trees k) w.1
  renamed-kids name (text_node us) n s w = rw (← s) tt
  renamed-kids name (cdata_node b) n s w = rw (← s) tt
  renamed-kids name (misc_node b) n s w = rw (← s) tt

  -- the kids of an element that came
  came-kids : (f : Filling Mark) (old : List (Tree Mark)) (n : Tree Mark) →
      brings_element f ≡ true → HaveNoKids f → in_place_of f old ≡ n ∷ [] →
      EachListIn (TellsList g root) (forest_of old) →
      EachListIn (TellsList g root) (forest_of (kids_of n))
  came-kids (others trees) old n h z e w = rw (bare trees n z e) tt
  came-kids (around name attrs ending mark) old n h z e w =
      let s : element name attrs ending (forest_of old) mark ≡ n = cc in
      rw (← s, forest-trees (forest_of old)) w
  came-kids inner old n h z e w = absurd cc
  came-kids (named name) [] n h z e w = absurd cc
  came-kids (named name) (t ∷ old) n h z e w =
      let s : with_name name t ≡ n = cc in renamed-kids name t n s w.0

  came-marked : (f : Filling Mark) (old : List (Tree Mark)) (stamp : ℕ) (v : Verdict) →
      brings_element f ≡ true → HaveNoKids f → (b : IsOneJudged g root (in_place_of f old) v) →
      EachListIn (TellsList g root) (forest_of old) →
      EachList (TellsList g root)
      (update_element v stamp (element b.name b.attrs b.ending b.kids b.mark))
  came-marked f old stamp v h z b w = (
    fresh-tells (an_element b.name) b.kids b.kids v stamp refl b.list,
    rw (← forest-trees b.kids)
        (came-kids f old (element b.name b.attrs b.ending b.kids b.mark) h z b.is_one w),
  )

  -- the list after a change that brought an element, updated, in three parts
  pub came-parts : (c : Change Mark) (ts : List (Tree Mark)) (i : InnerVerdict) (stamp : ℕ) →
      c.from ≤ c.to → c.to ≤ length ts →
      (j : IsInnerJudged g root c (in_place_of c.filling (between c.from c.to ts)) (Some i)) →
      update_kids (Some i) stamp (forest_of (list_after c ts))
      ≡ forest_of (take c.from ts
      ++ (update_element i.verdict stamp
      (element j.2.name j.2.attrs j.2.ending j.2.kids j.2.mark) ∷ drop c.to ts))
  came-parts c ts i stamp h l j =
      let b = j.2 in
      let n = element b.name b.attrs b.ending b.kids b.mark in
      let front = front-length ts c.from c.to h l in
      let place : i.place ≡ length (take c.from ts) = j.1 ∙ sym front in
      ap (λ (l : List (Tree Mark)).
      change_kid (update_element i.verdict stamp) i.place
      (forest_of (take c.from ts ++ (l ++ drop c.to ts)))) b.is_one
      ∙ ap (λ (k : ℕ).
      change_kid (update_element i.verdict stamp) k
      (forest_of (take c.from ts ++ (n ∷ drop c.to ts)))) place
      ∙ among (update_element i.verdict stamp) (take c.from ts) (drop c.to ts) n

  -- the list after the change, updated
  pub list-marked : (c : Change Mark) (ts : List (Tree Mark)) (inner2 : Option InnerVerdict)
      (stamp : ℕ) → c.from ≤ c.to → c.to ≤ length ts → HaveNoKids c.filling →
      IsInnerJudged g root c (in_place_of c.filling (between c.from c.to ts)) inner2 →
      EachListIn (TellsList g root) (forest_of ts) →
      EachListIn (TellsList g root) (update_kids inner2 stamp (forest_of (list_after c ts)))
  list-marked c ts None stamp h l z j w =
      all-spliced (TellsList g root) ts (in_place_of c.filling (between c.from c.to ts)) c.from c.to
      h w (none-came c.filling (between c.from c.to ts) j
      (all-between (TellsList g root) ts c.from c.to h w))
  list-marked c ts (Some i) stamp h l z j w =
      let b = j.2 in
      let n = element b.name b.attrs b.ending b.kids b.mark in
      let is = came-parts c ts i stamp h l j in
      let m =
      came-marked c.filling (between c.from c.to ts) stamp i.verdict j.0 z b
      (all-between (TellsList g root) ts c.from c.to h w) in
      subst (EachListIn (TellsList g root)) (sym is)
      (all-joined (TellsList g root) (take c.from ts)
      (update_element i.verdict stamp n ∷ drop c.to ts)
      (all-front (TellsList g root) ts c.from c.to h w)
      (m, all-back (TellsList g root) ts c.from c.to h w))

  -- an element whose list is changed, updated
  pub owner-marked : (c : Change Mark) (x attrs : List ℕ) (e : Ending) (kids : Forest Mark)
      (m : Mark) (v : Verdict) (i : Option InnerVerdict) (stamp : ℕ) → c.from ≤ c.to →
      c.to ≤ length (trees_of kids) → HaveNoKids c.filling →
      AreJudged g root (an_element x) (trees_of kids) c v i → EachListIn (TellsList g root) kids →
      EachList (TellsList g root) (update_owner v i stamp (owner_after c (element x attrs e kids m)))
  owner-marked c x attrs e kids m v i stamp h l z j w = (
    fresh-tells (an_element x) (forest_of (list_after c (trees_of kids)))
        (update_kids i stamp (forest_of (list_after c (trees_of kids)))) v stamp
        (kids-heads i stamp (forest_of (list_after c (trees_of kids)))) j.outer,
    list-marked c (trees_of kids) i stamp h l z j.within (rw (forest-trees kids) w),
  )
