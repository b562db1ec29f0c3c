-- The limits on a document that hasn't many nodes.
use Rattle.std.specs.Prelude.{codes}
use Rattle.std.proofs.Common.{Bool, List, [], ap, arith, false, length, option_map, refl, suc, true, zero, ℕ, ◌+◌, ◌∷◌, ◌≡◌, ◌≤◌}
use Rattle.std.specs.Prelude.{if◌then◌else◌}
use Rattle.std.specs.List.{AllByRecursion}
use Rattle.pv_cache.specs.AcceptedEdits.{IsNarrowAt, IsWithinLimits}
use Rattle.pv_chars.specs.Texts.{has_data}
use Rattle.pv_chars.specs.Units.{units_in}
use Rattle.pv_dtd.specs.Plain.{PlainDtd}
use Rattle.pv_edit.proofs.ListPlaces.{ListAt, at_list, inside, top}
use Rattle.pv_edit.proofs.Sizes.{places-fit}
use Rattle.pv_edit.proofs.NodePlaces.{at_node}
use Rattle.pv_missing.specs.Widths.{FitsVerdict, IsListForVerdict, columns_of}
use Rattle.law_missing.specs.Documents.{tag}
use Rattle.law_missing.specs.Dtds.{sections_dtd}
use Rattle.pv_model.specs.Plain.{PlainToken, text}
use Rattle.pv_tree.specs.Lists.{lists_from, lists_of}
use Rattle.pv_tree.specs.Places.{at_node as at_spot}
use Rattle.pv_tree.specs.Plain.{PlainDoc, Tree, cdata_node, element, forest_of, misc_node, nodes_in, text_node}
use Rattle.pv_tree.specs.Words.{word_of}
use Rattle.law_drill_tree.specs.Sections.{Section, bare, drill_doc, head_tree, number_text, root_tree, trees, wrapped}

-- the word of a list has no more tokens than there are kids
text_length : (with_data : Bool) (w : List PlainToken) (n : ℕ) → length w ≤ n → length (if with_data then text ∷ w else w) ≤ suc n
text_length true w n l = omega arith
text_length false w n l = omega arith

word_length : {M : Type 0} (g : PlainDtd) (ts : List (Tree M)) → length (word_of g (forest_of ts)) ≤ length ts
word_length g [] = omega arith
word_length g (element x a e ks m ∷ ts) = omega (arith, word_length g ts)
word_length g (text_node units ∷ ts) = text_length (has_data units) (word_of g (forest_of ts)) (length ts) (word_length g ts)
word_length g (cdata_node b ∷ ts) = omega (arith, word_length g ts)
word_length g (misc_node b ∷ ts) = omega (arith, word_length g ts)

fits : (n : ℕ) → n ≤ 200000 → FitsVerdict sections_dtd n
fits n few = let columns : columns_of sections_dtd ≡ 30 = refl in rw columns (omega arith)

-- a list has at most twice as many kids as the document has nodes
some_nodes : (t : Tree ℕ) → 1 ≤ nodes_in t
some_nodes (element x a e ks m) = omega arith
some_nodes (text_node units) = omega arith
some_nodes (cdata_node b) = omega arith
some_nodes (misc_node b) = omega arith

list_length : (path : List ℕ) (root : Tree ℕ) (kids : List (Tree ℕ)) → ListAt path root kids → length kids ≤ nodes_in root + nodes_in root
list_length path root kids (top {root = r}) = omega (arith, some_nodes r)
list_length path root kids (inside {path = p} {x = x} {attrs = a} {e = e} {kids = ks} {m = m} {root = r} n) =
    omega (arith, places-fit 0 (zero ∷ p) r (element x a e ks m) (ap (option_map at_spot) (at_node n)))

narrow_at : (doc : PlainDoc ℕ) → nodes_in doc.root ≤ 100000 → (path : List ℕ) → IsNarrowAt sections_dtd doc path
narrow_at doc few path kids at =
    let wide = list_length path doc.root kids (at_list path doc.root kids at) in
    fits (length (word_of sections_dtd (forest_of kids))) (omega (arith, word_length sections_dtd kids))

narrow_all : (doc : PlainDoc ℕ) → nodes_in doc.root ≤ 100000 → (paths : List (List ℕ)) → AllByRecursion (IsNarrowAt sections_dtd doc) paths
narrow_all doc few [] = tt
narrow_all doc few (path ∷ paths) = (narrow_at doc few path, narrow_all doc few paths)

pub within_limits : (doc : PlainDoc ℕ) → nodes_in doc.root ≤ 100000 → (paths : List (List ℕ)) → IsWithinLimits sections_dtd doc paths
within_limits doc few paths = record { few = omega arith; narrow = narrow_all doc few paths }

-- no list of a drill's document is too wide
narrow_kids : (ts : List (Tree Unit)) → length ts ≤ 200000 → FitsVerdict sections_dtd (length (word_of sections_dtd (forest_of ts)))
narrow_kids ts few = fits (length (word_of sections_dtd (forest_of ts))) (omega (arith, word_length sections_dtd ts))

narrow_sections : (path : List ℕ) (i : ℕ) (ss : List Section) → AllByRecursion (IsListForVerdict sections_dtd) (lists_from path i (forest_of (trees ss)))
narrow_sections path i [] = tt
narrow_sections path i (bare k ∷ ss) = (narrow_kids (number_text k ∷ []) (omega arith), narrow_sections path (suc i) ss)
narrow_sections path i (wrapped k ∷ ss) =
    (narrow_kids (tag (codes "p") (number_text k ∷ []) ∷ []) (omega arith), (narrow_kids (number_text k ∷ []) (omega arith), narrow_sections path (suc i) ss))

pub narrow_doc : (ss : List Section) → length (trees ss) ≤ 100000 → AllByRecursion (IsListForVerdict sections_dtd) (lists_of (drill_doc (trees ss)))
narrow_doc ss few = (
  narrow_kids (root_tree (trees ss) ∷ []) (omega arith),
  (
    narrow_kids (head_tree ∷ trees ss) (omega arith),
    (narrow_kids (text_node (units_in (codes "drill")) ∷ []) (omega arith), narrow_sections (0 ∷ []) 1 ss),
  ),
)
