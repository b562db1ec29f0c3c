-- One level of a tree that is updated.
use Rattle.std.proofs.Common.{◌≡◌, ◌∙◌, ap, sym, refl, ℕ, ◌+◌, ◌-◌, ◌<◌, ◌≤◌, ◌^◌, List, [], ◌∷◌}
use Rattle.std.proofs.Common.{length, take, drop, get_or, Option, Some, None, slice_get, slice_set}
use Rattle.std.proofs.Common.{arith, subst, IsTrue}
use Rattle.std.specs.Prelude.{IsSomeAnd}
use Rattle.std.specs.Option.{option_map}
use Rattle.std.proofs.lemmas.Option.{slice_get-map, slice_get_within, get_or_from_slice_get}
use Rattle.pv_edit.specs.Changes.{change_below, change_kid}
use Rattle.pv_edit.specs.FittingChanges.{with_kids}
use Rattle.pv_edit.proofs.Levels.{first_changed, path-split, put_back}
use Rattle.pv_edit.proofs.NodePlaces.{KidAt, first, later, kid_at}
use Rattle.pv_tree.specs.Places.{kids_of}
use Rattle.pv_tree.specs.Plain.{Forest, Tree, cdata_node, element, is_element, misc_node, text_node}
use Rattle.pv_tree.specs.Plain.{trees_of}
use Rattle.pv_tree.specs.PlainForms.{plain, plain_all}
use Rattle.pv_tree.specs.declared.nodes.Mark.{Mark}
use Rattle.pv_tree.specs.declared.nodes.Node.{Node}
use Rattle.pv_tree.specs.declared.nodes.Verdict.{Verdict}
use Rattle.pv_cache.specs.Updates.{CanUpdate, HasElement, IsCounted, KidIsCounted, TellsAtLeast}
use Rattle.pv_cache.specs.Updates.{update_element, update_below, update_owner, update_kid, with_told}
use Rattle.pv_cache.specs.WellMarked.{told_left, told_left_in, told_nodes, told_nodes_in}
use Rattle.pv_cache.specs.declared.updates.InnerVerdict.{InnerVerdict}
use Rattle.pv_cache.specs.declared.told.Told.{Told}

-- a kid in a vector
pub at-place : (P : Tree Mark → Type 0) (i : ℕ) (ts : List (Tree Mark)) (ks : List Node)
    (d : Node) → plain_all ks ≡ ts → IsSomeAnd (slice_get ts i) P →
    (i < length ks) × P (plain (get_or ks i d))
at-place P i ts ks d e h = by (slice_get ks i) refl (rw (← slice_get-map plain ks i, e) h)
  where
    by : (o : Option Node) → slice_get ks i ≡ o → IsSomeAnd (option_map plain o) P →
        (i < length ks) × P (plain (get_or ks i d))
    by None s h = absurd h
    by (Some k) s h = (slice_get_within ks i k s, rw (get_or_from_slice_get ks i k d s) h)

-- a kid changed in its vector, and put back
pub kid-put : (h : Tree Mark → Tree Mark) (i : ℕ) (t : Tree Mark) (ks : List Node)
    (old kid : Node) → plain_all ks ≡ kids_of t → i < length ks → old ≡ get_or ks i old →
    plain kid ≡ h (plain old)
    → with_kids (plain_all (slice_set ks i kid)) t ≡ change_below (i ∷ []) h t
kid-put h i t ks old kid e l o k = first_changed (i ∷ []) h t ks old kid (omega arith) e l o k

sum-left : {i : ℕ} {kids : Forest Mark} {k : Tree Mark} (h : Tree Mark → Tree Mark) →
    KidAt i kids k →
    told_left_in (change_kid h i kids) + told_left k ≡ told_left_in kids + told_left (h k)
sum-left h (first {t = t} {rest = rest}) = omega arith
sum-left h (later {t = t} q) = let r = sum-left h q in omega arith

sum-nodes : {i : ℕ} {kids : Forest Mark} {k : Tree Mark} (h : Tree Mark → Tree Mark) →
    KidAt i kids k →
    told_nodes_in (change_kid h i kids) + told_nodes k ≡ told_nodes_in kids + told_nodes (h k)
sum-nodes h (first {t = t} {rest = rest}) = omega arith
sum-nodes h (later {t = t} q) = let r = sum-nodes h q in omega arith

part-left : {i : ℕ} {kids : Forest Mark} {k : Tree Mark} → KidAt i kids k →
    told_left k ≤ told_left_in kids
part-left first = omega arith
part-left (later q) = let r = part-left q in omega arith

part-nodes : {i : ℕ} {kids : Forest Mark} {k : Tree Mark} → KidAt i kids k →
    told_nodes k ≤ told_nodes_in kids
part-nodes first = omega arith
part-nodes (later q) = let r = part-nodes q in omega arith

told-same : (m : Mark) (a b c d : ℕ) → a ≡ c → b ≡ d →
    record m { left = a; nodes = b } ≡ record m { left = c; nodes = d }
told-same m a b c d p q =
    ap (λ n. record m { left = n; nodes = b }) p ∙ ap (λ n. record m { left = c; nodes = n }) q

-- what a update below needs at a kid, and what it finds there
pub record Below (P : Tree Mark → Type 0) (path : List ℕ) (f : Tree Mark →
    Tree Mark) (t : Tree Mark) (i : ℕ) (k : Tree Mark) : Type 0 where
  pub can : CanUpdate P path k
  pub counted : IsCounted (update_below path f k)
  pub at_least : (told_left k ≤ told_left t) × (told_nodes k ≤ told_nodes t)
  pub told_again : (before after : Told) → before.left ≡ told_left k → before.nodes ≡ told_nodes k →
      after.left ≡ told_left (update_below path f k) →
      after.nodes ≡ told_nodes (update_below path f k) →
      with_told before after (change_below (i ∷ []) (update_below path f) t)
      ≡ update_below (i ∷ path) f t

below-kid : (P : Tree Mark → Type 0) (path : List ℕ) (f : Tree Mark →
    Tree Mark) (x attrs : List ℕ) (kids : Forest Mark) (m : Mark) (i : ℕ) (k : Tree Mark) →
    KidAt i kids k → CanUpdate P path k → told_left_in kids ≤ m.left → told_nodes_in kids ≤ m.nodes →
    (e : _) → IsCounted (update_below (i ∷ path) f (element x attrs e kids m)) →
    Below P path f (element x attrs e kids m) i k
below-kid P path f x attrs kids m i k q can l n e c =
    let h = update_below path f in
    let sl = sum-left h q in
    let sn = sum-nodes h q in
    let pl = part-left q in
    let pn = part-nodes q in
    let cl = c.left in
    let cn = c.nodes in
    record {
      can = can;
      counted = record { left = omega arith; nodes = omega arith };
      at_least = (omega arith, omega arith);
      told_again = λ before after bl bn al an.
          let a : m.left - before.left + after.left ≡ m.left + told_left_in (change_kid h i kids)
          - told_left_in kids = omega arith in
          let b : m.nodes - before.nodes + after.nodes
          ≡ m.nodes + told_nodes_in (change_kid h i kids) - told_nodes_in kids = omega arith in
          ap (element x attrs e (change_kid h i kids)) (told-same m _ _ _ _ a b);
    }

found : (Q : Tree Mark → Type 0) (i : ℕ) (kids : Forest Mark) (o : Option (Tree Mark)) →
    slice_get (trees_of kids) i ≡ o → IsSomeAnd o Q → IsSomeAnd o (λ k. KidAt i kids k × Q k)
found Q i kids None e h = h
found Q i kids (Some k) e h = (kid_at i kids k e, h)

place-below : (P : Tree Mark → Type 0) (path : List ℕ) (f : Tree Mark →
    Tree Mark) (t : Tree Mark) (i : ℕ) (ks : List Node) (d : Node) → plain_all ks ≡ kids_of t →
    CanUpdate P (i ∷ path) t → IsCounted (update_below (i ∷ path) f t) →
    (i < length ks) × Below P path f t i (plain (get_or ks i d))
place-below P path f (element x attrs e kids m) i ks d s can c =
    let p =
    at-place (λ k. KidAt i kids k × CanUpdate P path k) i (trees_of kids) ks d s
    (found (CanUpdate P path) i kids (slice_get (trees_of kids) i) refl can.2) in
    (p.0, below-kid P path f x attrs kids m i (plain (get_or ks i d)) p.1.0 p.1.1 can.0 can.1 e c)
place-below P path f (text_node us) i ks d s can c = absurd can
place-below P path f (cdata_node b) i ks d s can c = absurd can
place-below P path f (misc_node b) i ks d s can c = absurd can

pub first-below : (P : Tree Mark → Type 0) (path : List ℕ) (f : Tree Mark →
    Tree Mark) (t : Tree Mark) (ks : List Node) (d : Node) → 1 ≤ length path →
    plain_all ks ≡ kids_of t → CanUpdate P path t → IsCounted (update_below path f t) →
    (get_or path 0 0 < length ks) ×
    Below P (take (length path - 1) (drop 1 path)) f t (get_or path 0 0)
    (plain (get_or ks (get_or path 0 0) d))
first-below P path f t ks d n s can c =
    place-below P (take (length path - 1) (drop 1 path)) f t (get_or path 0 0) ks d s
    (subst (λ (q : List ℕ). CanUpdate P q t) (path-split path n) can)
    (subst (λ (q : List ℕ). IsCounted (update_below q f t)) (path-split path n) c)

pub kid-updated : (inner : InnerVerdict) (stamp : ℕ) (t : Tree Mark) → IsTrue (is_element t) →
    change_below (inner.place ∷ []) (update_element inner.verdict stamp) t ≡ update_kid inner stamp t
kid-updated inner stamp (element x attrs e kids m) h = refl
kid-updated inner stamp (text_node us) h = absurd cc
kid-updated inner stamp (cdata_node b) h = absurd cc
kid-updated inner stamp (misc_node b) h = absurd cc

kid-counted : (h : Tree Mark → Tree Mark) {i : ℕ} {kids : Forest Mark} {k : Tree Mark} →
    KidAt i kids k → (told_left (h k) ≤ told_left_in (change_kid h i kids)) ×
    (told_nodes (h k) ≤ told_nodes_in (change_kid h i kids))
kid-counted h q =
    let sl = sum-left h q in let sn = sum-nodes h q in let pl = part-left q in
    let pn = part-nodes q in (omega arith, omega arith)

one-counted : (inner : InnerVerdict) (stamp : ℕ) (kids : Forest Mark) (o : Option (Tree Mark)) →
    slice_get (trees_of kids) inner.place ≡ o → IsSomeAnd o (λ t. IsTrue (is_element t)) →
    told_left_in (change_kid (update_element inner.verdict stamp) inner.place kids) < 2 ^ 64 →
    told_nodes_in (change_kid (update_element inner.verdict stamp) inner.place kids) < 2 ^ 64 →
    IsSomeAnd o (λ k. IsCounted (update_element inner.verdict stamp k))
one-counted inner stamp kids None e h l n = absurd h
one-counted inner stamp kids (Some k) e h l n =
    let b = kid-counted (update_element inner.verdict stamp) (kid_at inner.place kids k e) in
    let p = b.0 in let q = b.1 in record { left = omega arith; nodes = omega arith }

pub inner-counted : (v : Verdict) (inner : InnerVerdict) (stamp : ℕ) (t : Tree Mark) →
    HasElement (kids_of t) inner.place → IsCounted (update_owner v (Some inner) stamp t) →
    KidIsCounted inner stamp t
inner-counted v inner stamp (element x attrs e kids m) h c =
    let l = c.left in let n = c.nodes in
    one-counted inner stamp kids (slice_get (trees_of kids) inner.place) refl h
    (omega arith) (omega arith)
inner-counted v inner stamp (text_node us) h c = absurd h
inner-counted v inner stamp (cdata_node b) h c = absurd h
inner-counted v inner stamp (misc_node b) h c = absurd h

pub same-told : (i : ℕ) (h : Tree Mark → Tree Mark) (t : Tree Mark) →
    (told_left (change_below (i ∷ []) h t) ≡ told_left t) ×
    (told_nodes (change_below (i ∷ []) h t) ≡ told_nodes t)
same-told i h (element x attrs e kids m) = (refl, refl)
same-told i h (text_node us) = (refl, refl)
same-told i h (cdata_node b) = (refl, refl)
same-told i h (misc_node b) = (refl, refl)

-- one level of the updating of a tree: its kids taken out, one of them updated, put back, and its
-- mark told again
module _ (P : Tree Mark → Type 0) (path : List ℕ) (f : Tree Mark →
    Tree Mark) (old bare put : Tree Mark) (ks : List Node) (kid new : Node) (before after : Told)
    (n : 1 ≤ length path) (taken : plain_all ks ≡ kids_of old) (rest : bare ≡ with_kids [] old)
    (is_put : put ≡ with_kids (plain_all (slice_set ks (get_or path 0 0) new)) bare)
    (is_kid : kid ≡ get_or ks (get_or path 0 0) kid)
    (made : plain new ≡ update_below (take (length path - 1) (drop 1 path)) f (plain kid))
    (bl : before.left ≡ told_left (plain kid)) (bn : before.nodes ≡ told_nodes (plain kid))
    (al : after.left ≡ told_left (plain new)) (an : after.nodes ≡ told_nodes (plain new))
    (can : CanUpdate P path old) (counted : IsCounted (update_below path f old)) where
  below-it : (get_or path 0 0 < length ks) ×
      Below P (take (length path - 1) (drop 1 path)) f old (get_or path 0 0) (plain kid)
  below-it = rw is_kid (first-below P path f old ks kid n taken can counted)

  is-changed : put ≡ change_below (get_or path 0 0 ∷ [])
      (update_below (take (length path - 1) (drop 1 path)) f) old
  is-changed =
      put_back old bare put (plain_all (slice_set ks (get_or path 0 0) new)) rest is_put
      ∙ kid-put (update_below (take (length path - 1) (drop 1 path)) f) (get_or path 0 0) old ks kid
      new taken below-it.0 is_kid made

  pub level-at-least : TellsAtLeast before put
  level-at-least =
      let same =
      same-told (get_or path 0 0) (update_below (take (length path - 1) (drop 1 path)) f) old in
      let l = below-it.1.at_least.0 in
      let m = below-it.1.at_least.1 in
      let p = ap told_left is-changed in
      let q = ap told_nodes is-changed in
      let x = same.0 in
      let y = same.1 in
      (omega arith, omega arith)

  pub level-again : with_told before after put ≡ update_below path f old
  level-again =
      ap (with_told before after) is-changed
      ∙ below-it.1.told_again before after bl bn (al ∙ ap told_left made) (an ∙ ap told_nodes made)
      ∙ ap (λ (q : List ℕ). update_below q f old) (sym (path-split path n))

  pub level-counted : IsCounted (with_told before after put)
  level-counted = subst IsCounted (sym level-again) counted
