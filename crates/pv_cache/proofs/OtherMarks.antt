-- What a document shows whatever its marks are.
use Rattle.std.proofs.Common.{ap, refl, suc, ◌+◌, ◌∙◌, ◌∷◌, ◌≡◌}
use Rattle.pv_dtd.specs.Plain.{PlainDtd}
use Rattle.pv_missing.proofs.VerdictHeads.{same_word}
use Rattle.pv_reach.proofs.OtherMarks.{view_as}
use Rattle.pv_tree.specs.Heads.{head_of, heads_of}
use Rattle.pv_tree.specs.Plain.{Forest, Tree, cdata_node, element, misc_node, nodes_in}
use Rattle.pv_tree.specs.Plain.{nodes_in_all, no_trees, map_marks, map_marks_all, text_node, tree}
use Rattle.pv_tree.specs.Plain.{without_marks}
use Rattle.pv_tree.specs.View.{view}
use Rattle.pv_tree.specs.Words.{word_of}

module _ {M N : Type 0} (f : M → N) where
  mutual
    pub nodes_as : (t : Tree M) → nodes_in (map_marks f t) ≡ nodes_in t
    nodes_as (element x a e ks m) = ap suc (all_nodes_as ks)
    nodes_as (text_node us) = refl
    nodes_as (cdata_node b) = refl
    nodes_as (misc_node b) = refl

    all_nodes_as : (ks : Forest M) → nodes_in_all (map_marks_all f ks) ≡ nodes_in_all ks
    all_nodes_as no_trees = refl
    all_nodes_as (tree t rest) =
        ap (λ n. n + nodes_in_all (map_marks_all f rest)) (nodes_as t)
        ∙ ap (λ n. nodes_in t + n) (all_nodes_as rest)

  head_as : (t : Tree M) → head_of (map_marks f t) ≡ head_of t
  head_as (element x a e ks m) = refl
  head_as (text_node us) = refl
  head_as (cdata_node b) = refl
  head_as (misc_node b) = refl

  pub heads_as : (ks : Forest M) → heads_of (map_marks_all f ks) ≡ heads_of ks
  heads_as no_trees = refl
  heads_as (tree t rest) =
      ap (λ h. h ∷ heads_of (map_marks_all f rest)) (head_as t)
      ∙ ap (λ hs. head_of t ∷ hs) (heads_as rest)

  pub word_as : (g : PlainDtd) (ks : Forest M) → word_of g (map_marks_all f ks) ≡ word_of g ks
  word_as g ks = same_word g (map_marks_all f ks) ks (heads_as ks)

pub view_unmarked : {M : Type 0} (t : Tree M) → view (without_marks t) ≡ view t
view_unmarked t = view_as (λ _. tt) t

pub nodes_unmarked : {M : Type 0} (t : Tree M) → nodes_in (without_marks t) ≡ nodes_in t
nodes_unmarked t = nodes_as (λ _. tt) t
