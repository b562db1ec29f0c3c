-- Words of lists of nodes, joined.
use Rattle.std.proofs.Common.{◌≡◌, ◌∙◌, ap, refl, ℕ, ◌≤◌, Bool, true, false, ◌&&◌, if◌then◌else◌}
use Rattle.std.proofs.Common.{List, [], ◌∷◌, ◌++◌, length, take, drop, map, arith}
use Rattle.std.proofs.lemmas.List.{drop-map, take-map}
use Rattle.pv_chars.specs.Texts.{has_data}
use Rattle.pv_dtd.specs.Plain.{PlainDtd}
use Rattle.pv_edit.specs.Changes.{in_place_of, with_name}
use Rattle.pv_edit.specs.FittingChanges.{plain_filling}
use Rattle.pv_edit.specs.Reasons.{is_one_element}
use Rattle.pv_edit.specs.declared.filling.Filling.{Filling}
use Rattle.pv_edit.specs.declared.filling.Filling.TheVariants.{Around, Named}
use Rattle.pv_missing.specs.WordVerdicts.{has_no_trees}
use Rattle.pv_model.specs.Plain.{PlainToken, text}
use Rattle.pv_tree.specs.Plain.{Ending, Forest, Tree, cdata_node, element, forest_of, misc_node}
use Rattle.pv_tree.specs.Plain.{text_node}
use Rattle.pv_tree.specs.PlainForms.{plain, plain_all, plain_end}
use Rattle.pv_tree.specs.Words.{node_before, word_of}
use Rattle.pv_tree.specs.declared.nodes.End.{End}
use Rattle.pv_tree.specs.declared.nodes.Mark.{Mark}
use Rattle.pv_tree.specs.declared.nodes.Node.{Node}

data-joined : (b : Bool) (u v : List PlainToken) →
    (if b then text ∷ (u ++ v) else (u ++ v)) ≡ (if b then text ∷ u else u) ++ v
data-joined true u v = refl
data-joined false u v = refl

before-joined : (g : PlainDtd) (t : Tree Mark) (u v : List PlainToken) →
    node_before g t (u ++ v) ≡ node_before g t u ++ v
before-joined g (element x a e k m) u v = refl
before-joined g (text_node us) u v = data-joined (has_data us) u v
before-joined g (cdata_node b) u v = refl
before-joined g (misc_node b) u v = refl

pub word-joined : (g : PlainDtd) (xs ys : List (Tree Mark)) →
    word_of g (forest_of (xs ++ ys)) ≡ word_of g (forest_of xs) ++ word_of g (forest_of ys)
word-joined g [] ys = refl
word-joined g (x ∷ xs) ys =
    ap (node_before g x) (word-joined g xs ys)
    ∙ before-joined g x (word_of g (forest_of xs)) (word_of g (forest_of ys))

pub bare-joined : (xs ys : List (Tree Mark)) →
    has_no_trees (forest_of (xs ++ ys))
    ≡ (has_no_trees (forest_of xs) && has_no_trees (forest_of ys))
bare-joined [] ys = refl
bare-joined (x ∷ xs) ys = refl

pub around-comes : (filling : Filling) (ts : List (Tree Mark)) (name attrs : List ℕ) (e : End) →
    filling ≡ Around name attrs e →
    (attrs : List ℕ) × (ending : Ending) × (kids : Forest Mark) × (mark : Mark) ×
    (in_place_of (plain_filling filling) ts ≡ element name attrs ending kids mark ∷ [])
around-comes filling ts name attrs e f = rw f (attrs, plain_end e, forest_of ts, _, refl)

renamed-one : (name : List ℕ) (ts : List (Tree Mark)) → is_one_element ts ≡ true →
    (attrs : List ℕ) × (ending : Ending) × (kids : Forest Mark) × (mark : Mark) ×
    (map (with_name name) ts ≡ element name attrs ending kids mark ∷ [])
renamed-one name [] h = absurd cc
renamed-one name (element x a e k m ∷ []) h = (a, e, k, m, refl)
renamed-one name (text_node us ∷ []) h = absurd cc
renamed-one name (cdata_node b ∷ []) h = absurd cc
renamed-one name (misc_node b ∷ []) h = absurd cc
renamed-one name (t ∷ u ∷ ts) h = absurd cc

pub named-comes : (filling : Filling) (ts : List (Tree Mark)) (name : List ℕ) →
    filling ≡ Named name → is_one_element ts ≡ true →
    (attrs : List ℕ) × (ending : Ending) × (kids : Forest Mark) × (mark : Mark) ×
    (in_place_of (plain_filling filling) ts ≡ element name attrs ending kids mark ∷ [])
named-comes filling ts name f h = rw f (renamed-one name ts h)

pub not-bare : (ks : List Node) → 1 ≤ length ks → false ≡ has_no_trees (forest_of (plain_all ks))
not-bare [] h = absurd (omega arith)
not-bare (k ∷ ks) h = refl

-- whether a list has no kids after a change
pub bare-after : (ks : List Node) (from to : ℕ) (new : List (Tree Mark)) →
    (has_no_trees (forest_of (plain_all (take from ks)))
    && (has_no_trees (forest_of new) && has_no_trees (forest_of (plain_all (drop to ks)))))
    ≡ has_no_trees (forest_of (take from (plain_all ks) ++ (new ++ drop to (plain_all ks))))
bare-after ks from to new =
    rw (
      take-map plain from ks,
      drop-map plain to ks,
      bare-joined (map plain (take from ks)) (new ++ map plain (drop to ks)),
      bare-joined new (map plain (drop to ks)),
    ) refl
