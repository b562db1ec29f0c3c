-- Whether texts may be cut changes nothing.
use Rattle.std.specs.Prelude.{IsTrue}
use Rattle.std.proofs.Common.{Bool, List, [], false, if◌then◌else◌, refl, true, ℕ, ◌||◌, ◌↔◌, ◌∷◌, ◌≡◌, ◌≢◌}
use Rattle.pv_chars.specs.Texts.{has_data, is_data, joined}
use Rattle.pv_dtd.specs.Plain.{PlainDtd}
use Rattle.pv_dtd.specs.Hedge.{Hedge, Leaf, cdata, data_unit, done, elem, leaf, misc, white}
use Rattle.pv_tree.specs.Plain.{Forest, Tree, cdata_node, element, is_element, misc_node, no_trees, text_node, tree}
use Rattle.pv_tree.specs.View.{spread, view, view_all, view_before}
use Rattle.pv_missing.specs.DocumentLaws.{CutsChangeNothing}
use Rattle.pv_dtd.specs.Proper.{IsProperDtd}
use Rattle.pv_missing.specs.SameMissing.{SameMissing, uncut, uncut_all, uncut_before}
use Rattle.pv_tree.specs.Units.{HasUnits, HaveUnits}
use Rattle.pv_missing.proofs.AlikeCompletions.{unchanged}
use Rattle.pv_missing.proofs.AlikeHedges.{Alike, IsText, alike_blank, alike_done, alike_elem, alike_leaf, alike_merge, alike_text, alike_white}
use Rattle.pv_missing.proofs.SameCompletions.{same_missing}

blank_unit : (g : PlainDtd) (bytes : List ℕ) (more : Bool) (h h2 : Hedge) (b : Bool) → (b || more) ≡ false → (more ≡ false → Alike g h h2) →
    Alike g (leaf (if b then data_unit bytes else white bytes) h) h2
blank_unit g bytes more h h2 true e next = absurd cc
blank_unit g bytes more h h2 false e next = alike_blank (white bytes) h h2 tt (next e)

-- units with no data are alike to nothing
blanks_alike : (g : PlainDtd) (us : List (List ℕ)) (h h2 : Hedge) → has_data us ≡ false → Alike g h h2 → Alike g (spread us h) h2
blanks_alike g [] h h2 e r = r
blanks_alike g (u ∷ us) h h2 e r = blank_unit g u (has_data us) (spread us h) h2 (is_data u) e (λ f. blanks_alike g us h h2 f r)

-- a data unit in front of other units
data_unit_step : (g : PlainDtd) (bytes : List ℕ) (m : Leaf) (h h2 : Hedge) (more : Bool) → IsText m → (more ≡ true → Alike g h (leaf m h2)) → (more ≡ false → Alike g h h2) →
    Alike g (leaf (data_unit bytes) h) (leaf m h2)
data_unit_step g bytes m h h2 true i some_data none = alike_merge (data_unit bytes) m h h2 tt i (some_data refl)
data_unit_step g bytes m h h2 false i some_data none = alike_text (data_unit bytes) m h h2 tt i (none refl)

unit_step : (g : PlainDtd) (bytes : List ℕ) (m : Leaf) (h h2 : Hedge) (more b : Bool) → IsText m → (b || more) ≡ true → (more ≡ true → Alike g h (leaf m h2)) →
    (more ≡ false → Alike g h h2) → Alike g (leaf (if b then data_unit bytes else white bytes) h) (leaf m h2)
unit_step g bytes m h h2 more true i e some_data none = data_unit_step g bytes m h h2 more i some_data none
unit_step g bytes m h h2 more false i e some_data none = alike_blank (white bytes) h (leaf m h2) tt (some_data e)

data_alike : (g : PlainDtd) (us : List (List ℕ)) (m : Leaf) (h h2 : Hedge) → IsText m → has_data us ≡ true → Alike g h h2 → Alike g (spread us h) (leaf m h2)
data_alike g [] m h h2 i e r = absurd cc
data_alike g (u ∷ us) m h h2 i e r =
    unit_step g u m (spread us h) h2 (has_data us) (is_data u) i e (λ f. data_alike g us m h h2 i f r) (λ f. blanks_alike g us h h2 f r)

first_blank : (g : PlainDtd) (bytes all : List ℕ) (more : Bool) (h h2 : Hedge) (b : Bool) → (b || more) ≡ false → (more ≡ false → Alike g h h2) →
    Alike g (leaf (if b then data_unit bytes else white bytes) h) (leaf (white all) h2)
first_blank g bytes all more h h2 true e next = absurd cc
first_blank g bytes all more h h2 false e next = alike_white (white bytes) (white all) h h2 tt tt (next e)

-- a text as a whole is alike to its units
text_alike : (g : PlainDtd) (us : List (List ℕ)) (all : List ℕ) (h h2 : Hedge) (b : Bool) → us ≢ [] → has_data us ≡ b → Alike g h h2 →
    Alike g (spread us h) (leaf (if b then data_unit all else white all) h2)
text_alike g us all h h2 true ne e r = data_alike g us (data_unit all) h h2 tt e r
text_alike g [] all h h2 false ne e r = absurd (ne refl)
text_alike g (u ∷ us) all h h2 false ne e r = first_blank g u all (has_data us) (spread us h) h2 (is_data u) e (λ f. blanks_alike g us h h2 f r)

both_none : {M : Type 0} (k : Forest M) → HaveUnits k → (view_all k ≡ done) ↔ (uncut_all k ≡ done)
both_none no_trees p = ((λ e. refl), (λ e. refl))
both_none (tree (text_node []) r) p = absurd (p.0 refl)
both_none (tree (text_node (u ∷ us)) r) p = ((λ e. absurd cc), (λ e. absurd cc))
both_none (tree (cdata_node b) r) p = ((λ e. absurd cc), (λ e. absurd cc))
both_none (tree (misc_node b) r) p = ((λ e. absurd cc), (λ e. absurd cc))
both_none (tree (element x t e k m) r) p = ((λ f. absurd cc), (λ f. absurd cc))

mutual
  tree_alike : {M : Type 0} (g : PlainDtd) (t : Tree M) (h h2 : Hedge) → HasUnits t → Alike g h h2 → Alike g (view_before t h) (uncut_before t h2)
  tree_alike g (element x t e k m) h h2 p r = alike_elem x t (view_all k) (uncut_all k) h h2 (λ _. both_none k p) (forest_alike g k p) r
  tree_alike g (text_node us) h h2 p r = text_alike g us (joined us) h h2 (has_data us) p refl r
  tree_alike g (cdata_node b) h h2 p r = alike_leaf (cdata b) h h2 r
  tree_alike g (misc_node b) h h2 p r = alike_leaf (misc b) h h2 r

  forest_alike : {M : Type 0} (g : PlainDtd) (k : Forest M) → HaveUnits k → Alike g (view_all k) (uncut_all k)
  forest_alike g no_trees p = alike_done
  forest_alike g (tree t r) p = tree_alike g t (view_all r) (uncut_all r) p.0 (forest_alike g r p.1)

root_cuts : {M : Type 0} (g : PlainDtd) (root : List ℕ) (t : Tree M) → IsProperDtd g → IsTrue (is_element t) → HasUnits t → SameMissing g root (view t) (uncut t)
root_cuts g root (element x a e k m) proper i p = same_missing g root (elem x a (view_all k) done) (elem x a (uncut_all k) done) (λ n.
    unchanged g root x a (view_all k) (uncut_all k) n proper (λ _. both_none k p) (forest_alike g k p))
root_cuts g root (text_node us) proper i p = absurd cc
root_cuts g root (cdata_node b) proper i p = absurd cc
root_cuts g root (misc_node b) proper i p = absurd cc

pub cuts : (M : Type 0) → CutsChangeNothing M
cuts M g root doc proper p = root_cuts g root doc.root proper p.rooted p.units
