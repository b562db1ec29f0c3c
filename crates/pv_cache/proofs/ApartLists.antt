-- Lists that aren't the changed one, and aren't below it, have the same heads after the change.
use Rattle.std.proofs.Common.{◌≡◌, ◌∙◌, ap, sym, refl, ℕ, zero, suc, Bool, true, false, List, []}
use Rattle.std.proofs.Common.{◌∷◌, Option, slice_get, subst}
use Rattle.std.specs.Prelude.{IsTrue, not, ◌||◌}
use Rattle.std.specs.Option.{option_and_then}
use Rattle.std.proofs.lemmas.Bool.{eq-eqb}
use Rattle.pv_dtd.specs.Plain.{PlainDtd}
use Rattle.pv_edit.specs.Changes.{Change, change_below, change_kid, doc_after, owner_after}
use Rattle.pv_edit.specs.FittingChanges.{CanChange}
use Rattle.pv_edit.specs.Reasons.{is_top, items_of, kids_at}
use Rattle.pv_edit.proofs.ListsKeptByUndo.{can-made}
use Rattle.pv_edit.proofs.Levels.{forest-trees}
use Rattle.pv_edit.proofs.DocumentAsElement.{after-whole, list-whole, whole}
use Rattle.pv_tree.specs.Heads.{Head, head_of, heads_of}
use Rattle.pv_tree.specs.Places.{list_of, node_below}
use Rattle.pv_tree.specs.Plain.{Forest, PlainDoc, Tree, cdata_node, element, forest_of, misc_node}
use Rattle.pv_tree.specs.Plain.{no_trees, text_node, tree, trees_of}
use Rattle.pv_tree.specs.declared.nodes.Mark.{Mark}
use Rattle.pv_tree.specs.declared.nodes.Verdict.{Verdict}
use Rattle.pv_cache.specs.Apart.{is_apart}
use Rattle.pv_cache.specs.ChangedWords.{AreKeptTokens}
use Rattle.pv_cache.specs.Updates.{update_doc}
use Rattle.pv_cache.specs.declared.updates.InnerVerdict.{InnerVerdict}
use Rattle.pv_cache.specs.declared.kept_lists.KeptTokens.{KeptTokens}
use Rattle.pv_cache.proofs.ListTokenFacts.{heads-in, heads-kids, of-kept, some-kept, tokens-alike}
use Rattle.pv_cache.proofs.MarksAlone.{doc-as}

-- the heads of the list of a node at a path below this one
abbrev heads-at : {M : Type 0} → List ℕ → Tree M → List Head
heads-at path t = heads-in (items_of (option_and_then list_of (node_below path t)))

abbrev heads-under : {M : Type 0} → List ℕ → Option (Tree M) → List Head
heads-under path o =
    heads-in (items_of (option_and_then list_of (option_and_then (node_below path) o)))

kids-heads : {M : Type 0} (f : Tree M → Tree M) → ((t : Tree M) → head_of (f t) ≡ head_of t) →
    (i : ℕ) (kids : Forest M) → heads_of (change_kid f i kids) ≡ heads_of kids
kids-heads f h i no_trees = refl
kids-heads f h zero (tree t rest) = ap (λ (d : Head). d ∷ heads_of rest) (h t)
kids-heads f h (suc i) (tree t rest) =
    ap (λ (l : List Head). head_of t ∷ l) (kids-heads f h i rest)

below-head : {M : Type 0} (f : Tree M → Tree M) → ((t : Tree M) → head_of (f t) ≡ head_of t) →
    (path : List ℕ) (t : Tree M) → head_of (change_below path f t) ≡ head_of t
below-head f h [] t = h t
below-head f h (i ∷ path) (element x a e kids m) = refl
below-head f h (i ∷ path) (text_node us) = refl
below-head f h (i ∷ path) (cdata_node b) = refl
below-head f h (i ∷ path) (misc_node b) = refl

kid-heads : {M : Type 0} (f : Tree M → Tree M) (path : List ℕ) (i j : ℕ) (kids : Forest M) →
    (i ≡ j → (t : Tree M) → heads-at path (f t) ≡ heads-at path t) →
    heads-under path (slice_get (trees_of (change_kid f i kids)) j)
    ≡ heads-under path (slice_get (trees_of kids) j)
kid-heads f path i j no_trees same = refl
kid-heads f path zero zero (tree t rest) same = same refl t
kid-heads f path zero (suc j) (tree t rest) same = refl
kid-heads f path (suc i) zero (tree t rest) same = refl
kid-heads f path (suc i) (suc j) (tree t rest) same =
    kid-heads f path i j rest (λ e. same (ap suc e))

-- where the first numbers are the same, the rest of the paths are apart
apart-rest : (i j : ℕ) (changed path : List ℕ) → i ≡ j →
    IsTrue (is_apart (i ∷ changed) (j ∷ path)) → IsTrue (is_apart changed path)
apart-rest i j changed path e h =
    let t = eq-eqb i j e in
    subst (λ (b : Bool). IsTrue (not b || is_apart changed path)) t h

apart-heads : {M : Type 0} (f : Tree M → Tree M) → ((t : Tree M) → head_of (f t) ≡ head_of t) →
    (changed path : List ℕ) (t : Tree M) → IsTrue (is_apart changed path) →
    heads-at path (change_below changed f t) ≡ heads-at path t
apart-heads f h [] path t a = absurd cc
apart-heads f h (i ∷ changed) [] (element x at e kids m) a =
    ap heads_of (forest-trees (change_kid (change_below changed f) i kids))
    ∙ kids-heads (change_below changed f) (below-head f h changed) i kids
    ∙ sym (ap heads_of (forest-trees kids))
apart-heads f h (i ∷ changed) (j ∷ path) (element x at e kids m) a =
    kid-heads (change_below changed f) path i j kids
    (λ same t. apart-heads f h changed path t (apart-rest i j changed path same a))
apart-heads f h (i ∷ changed) path (text_node us) a = refl
apart-heads f h (i ∷ changed) path (cdata_node b) a = refl
apart-heads f h (i ∷ changed) path (misc_node b) a = refl

owner-head : {M : Type 0} (c : Change M) (t : Tree M) → head_of (owner_after c t) ≡ head_of t
owner-head c (element x a e kids m) = refl
owner-head c (text_node us) = refl
owner-head c (cdata_node b) = refl
owner-head c (misc_node b) = refl

module _ (g : PlainDtd) (doc : PlainDoc Mark) (c : Change Mark) (can : CanChange c.list c doc.root)
    (unshort : is_top c.list ≡ true → c.shorten ≡ false)
    (v : Verdict) (inner : Option InnerVerdict) (stamp : ℕ) where
  list-apart : (path : List ℕ) → IsTrue (is_apart c.list path) →
      heads-in (kids_at path (doc_after c doc).root) ≡ heads-in (kids_at path doc.root)
  list-apart path a =
      let d = can-made doc.mark c.list c doc.root can unshort in
      let after = (doc_after c doc).root in
      ap (λ o. heads-in (items_of o)) (list-whole doc.mark path after)
      ∙ ap (heads-at path) (after-whole c.list c doc.root d.0 d.1)
      ∙ apart-heads (owner_after c) (owner-head c) c.list path (whole doc.mark doc.root) a
      ∙ sym (ap (λ o. heads-in (items_of o)) (list-whole doc.mark path doc.root))

  -- so what is kept of one stays right
  pub kept-apart : (kept : KeptTokens) → IsTrue (is_apart c.list kept.list) →
      AreKeptTokens g doc kept →
      AreKeptTokens g (update_doc c.list v inner stamp (doc_after c doc)) kept
  kept-apart kept apart held =
      let new = update_doc c.list v inner stamp (doc_after c doc) in
      let marks = doc-as c.list v inner stamp (doc_after c doc) in
      let same =
      heads-kids kept.list new (doc_after c doc) marks ∙ list-apart kept.list apart in
      some-kept g new kept
      (tokens-alike g (forest_of (kids_at kept.list doc.root))
      (forest_of (kids_at kept.list new.root)) kept.tokens (sym same)
      (of-kept g doc kept held))
