-- Document order of paths, and of the lists of a document.
use Rattle.std.proofs.Common.{◌≡◌, ◌<◌, ◌≤◌, inl, inr, ℕ, suc, List, [], ◌∷◌, ◌++◌, refl, sym, ◌∙◌, append_assoc, arith}
use Rattle.std.proofs.lemmas.List.{append-nil}
use Rattle.std.proofs.lemmas.List.Elements.{All-append, All-cons, All-from_get_or, All-nil, All-tail, All-weaker, All-head}
use Rattle.std.proofs.lemmas.List.Kept.{AllPairs-cons}
use Rattle.std.specs.List.{All, AllPairs}
use Rattle.pv_tree.specs.Plain.{Tree, element, text_node, cdata_node, misc_node, Forest, no_trees, tree, PlainDoc}
use Rattle.pv_tree.specs.Lists.{Listed, an_element, the_document, lists_at, lists_from, lists_of}
use Rattle.pv_tree.specs.PathOrder.{IsPathBefore, IsListBefore}

-- ---- paths
-- no two paths are before each other
pub before_once : (path other : List ℕ) → IsPathBefore path other → IsPathBefore other path → ⊥
before_once [] [] b c = b
before_once [] (j ∷ other) b c = c
before_once (i ∷ path) [] b c = b
before_once (i ∷ path) (j ∷ other) (inl x) (inl y) = omega arith
before_once (i ∷ path) (j ∷ other) (inl x) (inr (e, y)) = omega arith
before_once (i ∷ path) (j ∷ other) (inr (e, x)) (inl y) = omega arith
before_once (i ∷ path) (j ∷ other) (inr (e, x)) (inr (f, y)) = before_once path other x y

pub before_itself : (path : List ℕ) → IsPathBefore path path → ⊥
before_itself path b = before_once path path b b

pub before_through : (path middle other : List ℕ) → IsPathBefore path middle → IsPathBefore middle other → IsPathBefore path other
before_through [] [] other b c = absurd b
before_through (i ∷ path) [] other b c = absurd b
before_through [] (j ∷ middle) [] b c = absurd c
before_through (i ∷ path) (j ∷ middle) [] b c = absurd c
before_through [] (j ∷ middle) (k ∷ other) b c = tt
before_through (i ∷ path) (j ∷ middle) (k ∷ other) (inl x) (inl y) = inl (omega arith)
before_through (i ∷ path) (j ∷ middle) (k ∷ other) (inl x) (inr (e, y)) = inl (omega arith)
before_through (i ∷ path) (j ∷ middle) (k ∷ other) (inr (e, x)) (inl y) = inl (omega arith)
before_through (i ∷ path) (j ∷ middle) (k ∷ other) (inr (e, x)) (inr (f, y)) = inr (e ∙ f, before_through path middle other x y)

pub before_below : (path below : List ℕ) (i : ℕ) → IsPathBefore path (path ++ i ∷ below)
before_below [] below i = tt
before_below (x ∷ path) below i = inr (refl, before_below path below i)

pub before_beside : (path a b : List ℕ) (i j : ℕ) → i < j → IsPathBefore (path ++ i ∷ a) (path ++ j ∷ b)
before_beside [] a b i j h = inl h
before_beside (x ∷ path) a b i j h = inr (refl, before_beside path a b i j h)

-- ---- pairs of joined lists
first_to_all : {X : Type 0} (R : X → X → Type 0) (x : X) (xs : List X) → AllPairs R (x ∷ xs) → All (R x) xs
first_to_all R x xs p = All-from_get_or (R x) xs x (λ i h. p 0 (suc i) x (omega arith) (omega arith))

pairs_behind : {X : Type 0} (R : X → X → Type 0) (x : X) (xs : List X) → AllPairs R (x ∷ xs) → AllPairs R xs
pairs_behind R x xs p i j d h k = p (suc i) (suc j) d (omega arith) (omega arith)

pairs_joined : {X : Type 0} (R : X → X → Type 0) (xs ys : List X) → AllPairs R xs → AllPairs R ys → All (λ x. All (R x) ys) xs → AllPairs R (xs ++ ys)
pairs_joined R [] ys p q all = q
pairs_joined R (x ∷ xs) ys p q all =
    AllPairs-cons R x (xs ++ ys) (All-append (R x) xs ys (first_to_all R x xs p) (All-head (λ x. All (R x) ys) x xs all))
    (pairs_joined R xs ys (pairs_behind R x xs p) q (All-tail (λ x. All (R x) ys) x xs all))

-- ---- lists of a document
-- its path leads through this one
record IsBelow {M : Type 0} (path : List ℕ) (list : Listed M) : Type 0 where
  below : List ℕ
  is_path : list.path ≡ path ++ below

-- its path leads through this one and a kid from this number on
record IsFrom {M : Type 0} (path : List ℕ) (i : ℕ) (list : Listed M) : Type 0 where
  place : ℕ
  below : List ℕ
  from : i ≤ place
  is_path : list.path ≡ path ++ place ∷ below

kid_from : {M : Type 0} (path : List ℕ) (i : ℕ) (list : Listed M) → IsBelow (path ++ i ∷ []) list → IsFrom path i list
kid_from path i list b = record { place = i; below = b.below; from = omega arith; is_path = b.is_path ∙ append_assoc path (i ∷ []) b.below }

from_more : {M : Type 0} (path : List ℕ) (i : ℕ) (list : Listed M) → IsFrom path (suc i) list → IsFrom path i list
from_more path i list f = record { place = f.place; below = f.below; from = omega (arith, f.from); is_path = f.is_path }

kid_below : {M : Type 0} (path : List ℕ) (list : Listed M) → IsFrom path 0 list → IsBelow path list
kid_below path list f = record { below = f.place ∷ f.below; is_path = f.is_path }

mutual
  all_below : {M : Type 0} (path : List ℕ) (t : Tree M) → All (IsBelow path) (lists_at path t)
  all_below path (element x attrs e kids mark) =
      All-cons (IsBelow path) (record { path = path; owner = an_element x; kids = kids }) (lists_from path 0 kids) (record { below = []; is_path = sym (append-nil path) })
      (All-weaker (IsFrom path 0) (IsBelow path) (kid_below path) (lists_from path 0 kids) (all_from path 0 kids))
  all_below path (text_node units) = All-nil (IsBelow path)
  all_below path (cdata_node bytes) = All-nil (IsBelow path)
  all_below path (misc_node bytes) = All-nil (IsBelow path)

  all_from : {M : Type 0} (path : List ℕ) (i : ℕ) (kids : Forest M) → All (IsFrom path i) (lists_from path i kids)
  all_from path i no_trees = All-nil (IsFrom path i)
  all_from path i (tree t rest) =
      All-append (IsFrom path i) (lists_at (path ++ i ∷ []) t) (lists_from path (suc i) rest)
      (All-weaker (IsBelow (path ++ i ∷ [])) (IsFrom path i) (kid_from path i) (lists_at (path ++ i ∷ []) t) (all_below (path ++ i ∷ []) t))
      (All-weaker (IsFrom path (suc i)) (IsFrom path i) (from_more path i) (lists_from path (suc i) rest) (all_from path (suc i) rest))

own_before : {M : Type 0} (path : List ℕ) (list other : Listed M) → list.path ≡ path → IsFrom path 0 other → IsListBefore list other
own_before path list other e f = rw (e, f.is_path) (before_below path f.below f.place)

kid_before : {M : Type 0} (path : List ℕ) (i : ℕ) (list other : Listed M) → IsBelow (path ++ i ∷ []) list → IsFrom path (suc i) other → IsListBefore list other
kid_before path i list other b f = rw (b.is_path, append_assoc path (i ∷ []) b.below, f.is_path) (before_beside path b.below f.below i f.place (omega (arith, f.from)))

mutual
  ascend_at : {M : Type 0} (path : List ℕ) (t : Tree M) → AllPairs IsListBefore (lists_at path t)
  ascend_at path (element x attrs e kids mark) =
      let own : Listed _ = record { path = path; owner = an_element x; kids = kids } in
      AllPairs-cons IsListBefore own (lists_from path 0 kids)
      (All-weaker (IsFrom path 0) (IsListBefore own) (λ other f. own_before path own other refl f) (lists_from path 0 kids) (all_from path 0 kids))
      (ascend_from path 0 kids)
  ascend_at path (text_node units) = λ i j d h k. absurd (omega arith)
  ascend_at path (cdata_node bytes) = λ i j d h k. absurd (omega arith)
  ascend_at path (misc_node bytes) = λ i j d h k. absurd (omega arith)

  ascend_from : {M : Type 0} (path : List ℕ) (i : ℕ) (kids : Forest M) → AllPairs IsListBefore (lists_from path i kids)
  ascend_from path i no_trees = λ i j d h k. absurd (omega arith)
  ascend_from path i (tree t rest) =
      let later = lists_from path (suc i) rest in
      pairs_joined IsListBefore (lists_at (path ++ i ∷ []) t) later (ascend_at (path ++ i ∷ []) t) (ascend_from path (suc i) rest)
      (All-weaker (IsBelow (path ++ i ∷ [])) (λ list. All (IsListBefore list) later)
      (λ list b. All-weaker (IsFrom path (suc i)) (IsListBefore list) (λ other f. kid_before path i list other b f) later (all_from path (suc i) rest))
      (lists_at (path ++ i ∷ []) t) (all_below (path ++ i ∷ []) t))

document_before : {M : Type 0} (doc : PlainDoc M) (list : Listed M) → IsBelow (0 ∷ []) list → IsListBefore (record { path = []; owner = the_document; kids = tree doc.root no_trees }) list
document_before doc list b = rw b.is_path tt

pub lists_ascend : {M : Type 0} (doc : PlainDoc M) → AllPairs IsListBefore (lists_of doc)
lists_ascend doc =
    AllPairs-cons IsListBefore (record { path = []; owner = the_document; kids = tree doc.root no_trees }) (lists_at (0 ∷ []) doc.root)
    (All-weaker (IsBelow (0 ∷ []))
    (IsListBefore (record { path = []; owner = the_document; kids = tree doc.root no_trees }))
    (document_before doc) (lists_at (0 ∷ []) doc.root) (all_below (0 ∷ []) doc.root))
    (ascend_at (0 ∷ []) doc.root)
