-- The word of some trees and that of the hedge that they show.
use Rattle.std.proofs.Common.{◌≡◌, ℕ, List, [], ◌∷◌, Bool, true, false, ◌||◌, Option, Some, None, if◌then◌else◌, refl, sym, ap, ◌∙◌}
use Rattle.pv_chars.specs.Texts.{is_data, has_data}
use Rattle.pv_model.specs.Plain.{PlainToken, named, text, other}
use Rattle.pv_dtd.specs.Plain.{PlainDtd, number_of}
use Rattle.pv_tree.specs.Plain.{Tree, element, text_node, cdata_node, misc_node, Forest, no_trees, tree}
use Rattle.pv_dtd.specs.Hedge.{Hedge, white, data_unit, leaf_word, token, word}
use Rattle.pv_tree.specs.View.{spread, view_before, view_all}
use Rattle.pv_tree.specs.Words.{node_before, word_of}
use Rattle.pv_tree.proofs.AlikeWords.{without_text, has_text, IsAlike}

alike_token : (o : Option ℕ) (u v : List PlainToken) → IsAlike u v → IsAlike (token o ∷ u) (token o ∷ v)
alike_token (Some y) u v a = record { same_others = ap (λ w. named y ∷ w) a.same_others; same_data = a.same_data }
alike_token None u v a = record { same_others = ap (λ w. other ∷ w) a.same_others; same_data = a.same_data }

without_text-leaf : (unit : List ℕ) (b : Bool) (u : List PlainToken) → without_text (leaf_word (if b then data_unit unit else white unit) u) ≡ without_text u
without_text-leaf unit true u = refl
without_text-leaf unit false u = refl

has_text-leaf : (unit : List ℕ) (b : Bool) (u : List PlainToken) → has_text (leaf_word (if b then data_unit unit else white unit) u) ≡ (b || has_text u)
has_text-leaf unit true u = refl
has_text-leaf unit false u = refl

without_text-spread : (g : PlainDtd) (units : List (List ℕ)) (h : Hedge) → without_text (word g (spread units h)) ≡ without_text (word g h)
without_text-spread g [] h = refl
without_text-spread g (unit ∷ units) h = without_text-leaf unit (is_data unit) (word g (spread units h)) ∙ without_text-spread g units h

or_or : (a b c : Bool) → (a || (b || c)) ≡ ((a || b) || c)
or_or true b c = refl
or_or false b c = refl

has_text-spread : (g : PlainDtd) (units : List (List ℕ)) (h : Hedge) → has_text (word g (spread units h)) ≡ (has_data units || has_text (word g h))
has_text-spread g [] h = refl
has_text-spread g (unit ∷ units) h =
    has_text-leaf unit (is_data unit) (word g (spread units h)) ∙ ap (λ b. is_data unit || b) (has_text-spread g units h) ∙ or_or (is_data unit) (has_data units) (has_text (word g h))

without_text-text : (b : Bool) (u : List PlainToken) → without_text (if b then text ∷ u else u) ≡ without_text u
without_text-text true u = refl
without_text-text false u = refl

has_text-text : (b : Bool) (u : List PlainToken) → has_text (if b then text ∷ u else u) ≡ (b || has_text u)
has_text-text true u = refl
has_text-text false u = refl

alike_spread : (g : PlainDtd) (units : List (List ℕ)) (u : List PlainToken) (h : Hedge) → IsAlike u (word g h) → IsAlike (if has_data units then text ∷ u else u) (word g (spread units h))
alike_spread g units u h a = record {
  same_others = without_text-text (has_data units) u ∙ a.same_others ∙ sym (without_text-spread g units h);
  same_data = has_text-text (has_data units) u ∙ ap (λ b. has_data units || b) a.same_data ∙ sym (has_text-spread g units h);
}

alike_before : {M : Type 0} (g : PlainDtd) (t : Tree M) (u : List PlainToken) (h : Hedge) → IsAlike u (word g h) → IsAlike (node_before g t u) (word g (view_before t h))
alike_before g (element x attrs ending kids mark) u h a = alike_token (number_of g x) u (word g h) a
alike_before g (text_node units) u h a = alike_spread g units u h a
alike_before g (cdata_node bytes) u h a = record { same_others = a.same_others; same_data = refl }
alike_before g (misc_node bytes) u h a = a

pub word_alike : {M : Type 0} (g : PlainDtd) (kids : Forest M) → IsAlike (word_of g kids) (word g (view_all kids))
word_alike g no_trees = record { same_others = refl; same_data = refl }
word_alike g (tree t rest) = alike_before g t (word_of g rest) (view_all rest) (word_alike g rest)
