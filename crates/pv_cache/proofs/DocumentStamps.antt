-- The stamps of a updated document.
use Rattle.std.proofs.Common.{List, length, None, Option, Some, [], ap, refl, suc, zero, ℕ, ◌++◌}
use Rattle.std.proofs.Common.{◌∙◌, ◌∷◌, ◌≡◌}
use Rattle.pv_dtd.specs.Plain.{PlainDtd}
use Rattle.pv_edit.specs.BroughtElements.{lists_changed}
use Rattle.pv_edit.specs.Changes.{Change, change_below, change_kid}
use Rattle.pv_tree.specs.Plain.{Forest, PlainDoc, Tree, cdata_node, element, map_marks}
use Rattle.pv_tree.specs.Plain.{map_marks_all, misc_node, no_trees, text_node, tree}
use Rattle.pv_tree.specs.declared.nodes.Mark.{Mark}
use Rattle.pv_tree.specs.declared.nodes.Verdict.{Verdict}
use Rattle.pv_cache.specs.VerdictsAfterChange.{IsInnerJudged}
use Rattle.pv_cache.specs.Updates.{update_element, update_below, update_doc, update_owner}
use Rattle.pv_cache.specs.Stamps.{changed_by, stamp_of, stamp_lists, stamps_of, with_mark}
use Rattle.pv_cache.specs.declared.updates.InnerVerdict.{InnerVerdict}

-- of the stamps of a tree the one function makes what the other makes of the tree
abbrev Stamps : (Tree Mark → Tree Mark) → (Tree ℕ → Tree ℕ) → Type 0
Stamps f h = (t : Tree Mark) → map_marks stamp_of (f t) ≡ h (map_marks stamp_of t)

kid_stamps : (f : Tree Mark → Tree Mark) (h : Tree ℕ → Tree ℕ) → Stamps f h →
    (i : ℕ) (kids : Forest Mark) →
    map_marks_all stamp_of (change_kid f i kids) ≡ change_kid h i (map_marks_all stamp_of kids)
kid_stamps f h s i no_trees = refl
kid_stamps f h s zero (tree t rest) = ap (λ u. tree u (map_marks_all stamp_of rest)) (s t)
kid_stamps f h s (suc i) (tree t rest) = ap (tree (map_marks stamp_of t)) (kid_stamps f h s i rest)

updated_stamps : (v : Verdict) (n : ℕ) → Stamps (update_element v n) (with_mark n)
updated_stamps v n (element x a e kids m) = refl
updated_stamps v n (text_node us) = refl
updated_stamps v n (cdata_node b) = refl
updated_stamps v n (misc_node b) = refl

below_stamps : (path : List ℕ) (f : Tree Mark → Tree Mark) (h : Tree ℕ → Tree ℕ) → Stamps f h →
    Stamps (update_below path f) (change_below path h)
below_stamps [] f h s t = s t
below_stamps (i ∷ path) f h s (element x a e kids m) =
    ap (λ k. element x a e k (stamp_of m))
    (kid_stamps (update_below path f) (change_below path h) (below_stamps path f h s) i kids)
below_stamps (i ∷ path) f h s (text_node us) = refl
below_stamps (i ∷ path) f h s (cdata_node b) = refl
below_stamps (i ∷ path) f h s (misc_node b) = refl

-- ---- changes one after the other
module _ {M : Type 0} where
  kid_alike : (f h : Tree M → Tree M) → ((t : Tree M) → f t ≡ h t) → (i : ℕ) (kids : Forest M) →
      change_kid f i kids ≡ change_kid h i kids
  kid_alike f h s i no_trees = refl
  kid_alike f h s zero (tree t rest) = ap (λ u. tree u rest) (s t)
  kid_alike f h s (suc i) (tree t rest) = ap (tree t) (kid_alike f h s i rest)

  kid_twice : (f h : Tree M → Tree M) (i : ℕ) (kids : Forest M) →
      change_kid f i (change_kid h i kids) ≡ change_kid (λ t. f (h t)) i kids
  kid_twice f h i no_trees = refl
  kid_twice f h zero (tree t rest) = refl
  kid_twice f h (suc i) (tree t rest) = ap (tree t) (kid_twice f h i rest)

  below_twice : (f h : Tree M → Tree M) (path : List ℕ) (t : Tree M) →
      change_below path f (change_below path h t) ≡ change_below path (λ u. f (h u)) t
  below_twice f h [] t = refl
  below_twice f h (i ∷ path) (element x a e kids m) =
      ap (λ k. element x a e k m)
      (kid_twice (change_below path f) (change_below path h) i kids
      ∙ kid_alike (λ u. change_below path f (change_below path h u))
      (change_below path (λ u. f (h u))) (below_twice f h path) i kids)
  below_twice f h (i ∷ path) (text_node us) = refl
  below_twice f h (i ∷ path) (cdata_node b) = refl
  below_twice f h (i ∷ path) (misc_node b) = refl

  below_further : (f : Tree M → Tree M) (path : List ℕ) (j : ℕ) (t : Tree M) →
      change_below (path ++ j ∷ []) f t ≡ change_below path (change_below (j ∷ []) f) t
  below_further f [] j t = refl
  below_further f (i ∷ path) j (element x a e kids m) =
      ap (λ k. element x a e k m)
      (kid_alike (change_below (path ++ j ∷ []) f) (change_below path (change_below (j ∷ []) f))
      (below_further f path j) i kids)
  below_further f (i ∷ path) j (text_node us) = refl
  below_further f (i ∷ path) j (cdata_node b) = refl
  below_further f (i ∷ path) j (misc_node b) = refl

-- the owner of a changed list, of which one kid may have a changed list too
abbrev both_marked : ℕ → InnerVerdict → Tree ℕ → Tree ℕ
both_marked n i t = change_below (i.place ∷ []) (with_mark n) (with_mark n t)

owner_stamps : (v : Verdict) (n : ℕ) → Stamps (update_owner v None n) (with_mark n)
owner_stamps v n (element x a e kids m) = refl
owner_stamps v n (text_node us) = refl
owner_stamps v n (cdata_node b) = refl
owner_stamps v n (misc_node b) = refl

inner_stamps : (v : Verdict) (n : ℕ) (i : InnerVerdict) →
    Stamps (update_owner v (Some i) n) (both_marked n i)
inner_stamps v n i (element x a e kids m) =
    ap (λ k. element x a e k n)
    (kid_stamps (update_element i.verdict n) (with_mark n) (updated_stamps i.verdict n) i.place kids
    ∙ kid_alike (with_mark n) (change_below [] (with_mark n)) (λ t. refl) i.place
    (map_marks_all stamp_of kids))
inner_stamps v n i (text_node us) = refl
inner_stamps v n i (cdata_node b) = refl
inner_stamps v n i (misc_node b) = refl

pub stamps_updated : (list : List ℕ) (v : Verdict) (inner : Option InnerVerdict) (n : ℕ)
    (doc : PlainDoc Mark) →
    stamps_of (update_doc list v inner n doc) ≡ stamp_lists n (changed_by list inner) (stamps_of doc)
stamps_updated [] v None n doc = refl
stamps_updated [] v (Some i) n doc =
    ap (λ (t : Tree ℕ). record { before = doc.before; root = t; after = doc.after; mark = n })
    (updated_stamps i.verdict n doc.root)
stamps_updated (k ∷ path) v None n doc =
    ap (λ (t : Tree ℕ). record {
      before = doc.before;
      root = t;
      after = doc.after;
      mark =
          stamp_of doc.mark;
    })
    (below_stamps path (update_owner v None n) (with_mark n) (owner_stamps v n) doc.root)
stamps_updated (k ∷ path) v (Some i) n doc =
    let root = map_marks stamp_of doc.root in
    let both =
    below_stamps path (update_owner v (Some i) n) (both_marked n i) (inner_stamps v n i) doc.root in
    let again = below_further (with_mark n) path i.place (change_below path (with_mark n) root) in
    let twice = below_twice (change_below (i.place ∷ []) (with_mark n)) (with_mark n) path root in
    let same : map_marks stamp_of (update_below path (update_owner v (Some i) n) doc.root)
    ≡ change_below (path ++ i.place ∷ []) (with_mark n) (change_below path (with_mark n) root) =
    cc in
    ap (λ (t : Tree ℕ). record {
      before = doc.before;
      root = t;
      after = doc.after;
      mark = stamp_of doc.mark;
    }) same

-- they are the lists that the change changes
pub changed_are : (g : PlainDtd) (root : List ℕ) (c : Change Mark) (new : List (Tree Mark))
    (inner : Option InnerVerdict) → IsInnerJudged g root c new inner →
    changed_by c.list inner ≡ lists_changed c
changed_are g root c new None j = rw j refl
changed_are g root c new (Some i) j = rw (j.0, j.1) refl

pub same_number : (list : List ℕ) (inner : Option InnerVerdict) →
    length (changed_by list inner) ≡ length (changed_by [] inner)
same_number list None = refl
same_number list (Some i) = refl
