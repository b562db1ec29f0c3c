-- Stamps change nothing else of a document.
use Rattle.std.proofs.Common.{List, [], ap, refl, suc, zero, ℕ, ◌∙◌, ◌∷◌, ◌≡◌}
use Rattle.pv_edit.specs.Changes.{change_below, change_kid}
use Rattle.pv_tree.specs.Marks.{unmarked_doc}
use Rattle.pv_tree.specs.Plain.{Forest, PlainDoc, Tree, cdata_node, element, map_marks, map_marks_all, misc_node, no_trees, text_node, tree, without_marks}
use Rattle.pv_cache.specs.Stamps.{doc_as, with_mark_at, stamp_lists, with_mark}

abbrev bare_all : {M : Type 0} → Forest M → Forest Unit
bare_all ks = map_marks_all (λ _. tt) ks

module _ {M : Type 0} (m : M) where
  marked_same : (t : Tree M) → without_marks (with_mark m t) ≡ without_marks t
  marked_same (element x a e ks n) = refl
  marked_same (text_node us) = refl
  marked_same (cdata_node b) = refl
  marked_same (misc_node b) = refl

  kid_same : (f : Tree M → Tree M) → ((t : Tree M) → without_marks (f t) ≡ without_marks t) → (i : ℕ) (ks : Forest M) → bare_all (change_kid f i ks) ≡ bare_all ks
  kid_same f s i no_trees = refl
  kid_same f s zero (tree t rest) = ap (λ (u : Tree Unit). tree u (bare_all rest)) (s t)
  kid_same f s (suc i) (tree t rest) = ap (tree (without_marks t)) (kid_same f s i rest)

  below_same : (path : List ℕ) (t : Tree M) → without_marks (change_below path (with_mark m) t) ≡ without_marks t
  below_same [] t = marked_same t
  below_same (i ∷ path) (element x a e ks n) = ap (λ (k : Forest Unit). element x a e k tt) (kid_same (change_below path (with_mark m)) (below_same path) i ks)
  below_same (i ∷ path) (text_node us) = refl
  below_same (i ∷ path) (cdata_node b) = refl
  below_same (i ∷ path) (misc_node b) = refl

  marked_doc_same : (path : List ℕ) (doc : PlainDoc M) → unmarked_doc (with_mark_at m path doc) ≡ unmarked_doc doc
  marked_doc_same [] doc = refl
  marked_doc_same (i ∷ path) doc = ap (λ (t : Tree Unit). record { before = doc.before; root = t; after = doc.after; mark = tt }) (below_same path doc.root)

  pub stamped_same : (paths : List (List ℕ)) (doc : PlainDoc M) → unmarked_doc (stamp_lists m paths doc) ≡ unmarked_doc doc
  stamped_same [] doc = refl
  stamped_same (path ∷ paths) doc = stamped_same paths (with_mark_at m path doc) ∙ marked_doc_same path doc

-- a document without marks is without marks
mutual
  bare_same : (t : Tree Unit) → without_marks t ≡ t
  bare_same (element x a e ks m) = ap (λ (k : Forest Unit). element x a e k tt) (all_bare_same ks)
  bare_same (text_node us) = refl
  bare_same (cdata_node b) = refl
  bare_same (misc_node b) = refl

  all_bare_same : (ks : Forest Unit) → bare_all ks ≡ ks
  all_bare_same no_trees = refl
  all_bare_same (tree t rest) = ap (λ (u : Tree Unit). tree u (bare_all rest)) (bare_same t) ∙ ap (tree t) (all_bare_same rest)

pub unmarked_bare : (doc : PlainDoc Unit) → unmarked_doc doc ≡ doc
unmarked_bare doc = ap (λ (t : Tree Unit). record { before = doc.before; root = t; after = doc.after; mark = tt }) (bare_same doc.root)

-- a document with stamps of 0, whatever its marks were
abbrev all_zero : {M : Type 0} → Forest M → Forest ℕ
all_zero ks = map_marks_all (λ _. 0) ks

abbrev zero_marks : {M : Type 0} → Tree M → Tree ℕ
zero_marks t = map_marks (λ _. 0) t

module _ {M : Type 0} where
  mutual
    zero_same : (t : Tree M) → zero_marks (without_marks t) ≡ zero_marks t
    zero_same (element x a e ks m) = ap (λ (k : Forest ℕ). element x a e k 0) (all_zero_same ks)
    zero_same (text_node us) = refl
    zero_same (cdata_node b) = refl
    zero_same (misc_node b) = refl

    all_zero_same : (ks : Forest M) → all_zero (bare_all ks) ≡ all_zero ks
    all_zero_same no_trees = refl
    all_zero_same (tree t rest) = ap (λ (u : Tree ℕ). tree u (all_zero (bare_all rest))) (zero_same t) ∙ ap (tree (zero_marks t)) (all_zero_same rest)

  -- marked with 0 or not, it is the same without marks
  mutual
    bare_zero : (t : Tree M) → without_marks (zero_marks t) ≡ without_marks t
    bare_zero (element x a e ks m) = ap (λ (k : Forest Unit). element x a e k tt) (all_bare_zero ks)
    bare_zero (text_node us) = refl
    bare_zero (cdata_node b) = refl
    bare_zero (misc_node b) = refl

    all_bare_zero : (ks : Forest M) → bare_all (all_zero ks) ≡ bare_all ks
    all_bare_zero no_trees = refl
    all_bare_zero (tree t rest) = ap (λ (u : Tree Unit). tree u (bare_all (all_zero rest))) (bare_zero t) ∙ ap (tree (without_marks t)) (all_bare_zero rest)

  pub begun_doc : (doc : PlainDoc M) → doc_as {M = Unit} {N = ℕ} (λ _. 0) (unmarked_doc doc) ≡ doc_as {M = M} {N = ℕ} (λ _. 0) doc
  begun_doc doc = ap (λ (t : Tree ℕ). record { before = doc.before; root = t; after = doc.after; mark = 0 }) (zero_same doc.root)

  pub begun_unmarked : (doc : PlainDoc M) → unmarked_doc {M = ℕ} (doc_as {M = M} {N = ℕ} (λ _. 0) doc) ≡ unmarked_doc doc
  begun_unmarked doc = ap (λ (t : Tree Unit). record { before = doc.before; root = t; after = doc.after; mark = tt }) (bare_zero doc.root)
