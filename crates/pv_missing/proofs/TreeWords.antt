-- The word of a list of nodes and the word of what it shows differ in how often a text comes.
use Rattle.std.proofs.Common.{Bool, List, [], false, if◌then◌else◌, refl, true, ℕ, ◌||◌, ◌∷◌, ◌≡◌}
use Rattle.pv_chars.specs.Texts.{has_data, is_data}
use Rattle.pv_model.specs.Plain.{PlainToken, text}
use Rattle.pv_dtd.specs.Plain.{PlainDtd, number_of}
use Rattle.pv_dtd.specs.Hedge.{Hedge, data_unit, done, leaf_word, token, white, word}
use Rattle.pv_tree.specs.Plain.{Forest, Tree, cdata_node, element, misc_node, no_trees, text_node, tree}
use Rattle.pv_tree.specs.View.{spread, view_all, view_before}
use Rattle.pv_tree.specs.Words.{node_before, word_of}
use Rattle.pv_tree.specs.Units.{HaveUnits}
use Rattle.pv_missing.proofs.Repeats.{Texts, texts_again, texts_drop, texts_keep, texts_none}

one_text : (w v : List PlainToken) (b : Bool) → Texts (if b then text ∷ w else w) v → Texts (text ∷ w) (text ∷ v)
one_text w v true r = texts_again w v r
one_text w v false r = texts_again w v (texts_drop w v r)

text_one : (w v : List PlainToken) (b : Bool) → Texts v (if b then text ∷ w else w) → Texts (text ∷ v) (text ∷ w)
text_one w v true r = texts_drop v (text ∷ w) r
text_one w v false r = texts_keep text v w r

to_unit : (more b : Bool) (v w : List PlainToken) (bytes : List ℕ) → Texts (if more then text ∷ w else w) v →
    Texts (if b || more then text ∷ w else w) (leaf_word (if b then data_unit bytes else white bytes) v)
to_unit more true v w bytes s = one_text w v more s
to_unit more false v w bytes s = s

from_unit : (more b : Bool) (v w : List PlainToken) (bytes : List ℕ) → Texts v (if more then text ∷ w else w) →
    Texts (leaf_word (if b then data_unit bytes else white bytes) v) (if b || more then text ∷ w else w)
from_unit more true v w bytes s = text_one w v more s
from_unit more false v w bytes s = s

to_spread : (g : PlainDtd) (us : List (List ℕ)) (h : Hedge) (w : List PlainToken) → Texts w (word g h) →
    Texts (if has_data us then text ∷ w else w) (word g (spread us h))
to_spread g [] h w r = r
to_spread g (u ∷ us) h w r = to_unit (has_data us) (is_data u) (word g (spread us h)) w u (to_spread g us h w r)

from_spread : (g : PlainDtd) (us : List (List ℕ)) (h : Hedge) (w : List PlainToken) → Texts (word g h) w →
    Texts (word g (spread us h)) (if has_data us then text ∷ w else w)
from_spread g [] h w r = r
from_spread g (u ∷ us) h w r = from_unit (has_data us) (is_data u) (word g (spread us h)) w u (from_spread g us h w r)

to_before : {M : Type 0} (g : PlainDtd) (t : Tree M) (h : Hedge) (w : List PlainToken) → Texts w (word g h) → Texts (node_before g t w) (word g (view_before t h))
to_before g (element x a e k m) h w r = texts_keep (token (number_of g x)) w (word g h) r
to_before g (text_node us) h w r = to_spread g us h w r
to_before g (cdata_node b) h w r = texts_keep text w (word g h) r
to_before g (misc_node b) h w r = r

from_before : {M : Type 0} (g : PlainDtd) (t : Tree M) (h : Hedge) (w : List PlainToken) → Texts (word g h) w → Texts (word g (view_before t h)) (node_before g t w)
from_before g (element x a e k m) h w r = texts_keep (token (number_of g x)) (word g h) w r
from_before g (text_node us) h w r = from_spread g us h w r
from_before g (cdata_node b) h w r = texts_keep text (word g h) w r
from_before g (misc_node b) h w r = r

pub to_view : {M : Type 0} (g : PlainDtd) (k : Forest M) → Texts (word_of g k) (word g (view_all k))
to_view g no_trees = texts_none
to_view g (tree t r) = to_before g t (view_all r) (word_of g r) (to_view g r)

pub from_view : {M : Type 0} (g : PlainDtd) (k : Forest M) → Texts (word g (view_all k)) (word_of g k)
from_view g no_trees = texts_none
from_view g (tree t r) = from_before g t (view_all r) (word_of g r) (from_view g r)

-- where no text is without units, nothing is seen only where nothing is there
pub view_none : {M : Type 0} (k : Forest M) → HaveUnits k → view_all k ≡ done → k ≡ no_trees
view_none no_trees p e = refl
view_none (tree (text_node []) r) p e = absurd (p.0 refl)
view_none (tree (text_node (u ∷ us)) r) p e = absurd cc
view_none (tree (cdata_node b) r) p e = absurd cc
view_none (tree (misc_node b) r) p e = absurd cc
view_none (tree (element x a s k m) r) p e = absurd cc
