-- What a document shows whatever its marks are.
use Rattle.std.proofs.Common.{List, ap, refl, ℕ, ◌∙◌, ◌≡◌}
use Rattle.pv_dtd.specs.Hedge.{Hedge, done, elem}
use Rattle.pv_tree.specs.Plain.{Forest, Tree, cdata_node, element, misc_node, no_trees, map_marks}
use Rattle.pv_tree.specs.Plain.{map_marks_all, text_node, tree}
use Rattle.pv_tree.specs.View.{shown_all, shown_before, spread, view}

module _ {M N : Type 0} (f : M → N) where
  mutual
    shown_as : (text : List (List ℕ) → Hedge → Hedge) (t : Tree M) (h : Hedge) →
        shown_before text (map_marks f t) h ≡ shown_before text t h
    shown_as text (element x a e ks m) h = ap (λ k. elem x a k h) (all_shown_as text ks)
    shown_as text (text_node us) h = refl
    shown_as text (cdata_node b) h = refl
    shown_as text (misc_node b) h = refl

    all_shown_as : (text : List (List ℕ) → Hedge → Hedge) (ks : Forest M) →
        shown_all text (map_marks_all f ks) ≡ shown_all text ks
    all_shown_as text no_trees = refl
    all_shown_as text (tree t rest) =
        shown_as text t (shown_all text (map_marks_all f rest))
        ∙ ap (shown_before text t) (all_shown_as text rest)

  pub view_as : (t : Tree M) → view (map_marks f t) ≡ view t
  view_as t = shown_as spread t done
