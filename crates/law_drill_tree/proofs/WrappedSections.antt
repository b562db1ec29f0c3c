-- The text of a section, put into an element.
use Rattle.std.specs.Prelude.{codes}
use Rattle.std.proofs.Common.{Bool, List, None, Some, [], ap, arith, false, length, not, option_and_then, option_map, refl, slice_get, suc, true, zero, ℕ, ◌*◌, ◌++◌, ◌+◌, ◌||◌, ◌∙◌, ◌∷◌, ◌≡◌, ◌≤◌}
use Rattle.std.proofs.lemmas.Bool.{le-ltb}
use Rattle.std.specs.Prelude.{nat_lt}
use Rattle.pv_chars.specs.Names.{is_name}
use Rattle.pv_edit.specs.Changes.{change_below, change_kid, doc_after, owner_after, root_after}
use Rattle.pv_edit.specs.Effects.{change_of}
use Rattle.pv_edit.specs.Reasons.{edit_outcome, gives, goes_too_deep, is_given, items_of, lacks_list, lacks_node, outcome, reason_of, unless}
use Rattle.pv_edit.specs.declared.reasons.Reason.TheVariants.{BadName, Deep, NoNode, NotElement, Range, RootShape}
use Rattle.law_missing.specs.Documents.{doc_of}
use Rattle.pv_tree.specs.Legal.{MAX_DEPTH}
use Rattle.pv_tree.specs.Places.{at_node, list_at, list_of, node_below, spot_at}
use Rattle.pv_tree.specs.Plain.{Tree, depth_of, depth_of_all, element, forest_of, nodes_in_all, tagged, tree, trees_of}
use Rattle.law_drill_tree.specs.Sections.{Section, bare, bare_section, drill_doc, head_tree, number_text, root_tree, section_tree, trees, with_around, section_wrap, wrapped}

-- a tree among others
kid_there : (i : ℕ) (front : List Section) (t : Tree Unit) (back : List (Tree Unit)) → length front ≡ i → slice_get (trees_of (forest_of (trees front ++ t ∷ back))) i ≡ Some t
kid_there zero [] t back e = refl
kid_there (suc i) [] t back e = absurd (omega arith)
kid_there zero (s ∷ front) t back e = absurd (omega arith)
kid_there (suc i) (s ∷ front) t back e = kid_there i front t back (omega arith)

kid_changed : (f : Tree Unit → Tree Unit) (i : ℕ) (front : List Section) (t : Tree Unit) (back : List (Tree Unit)) → length front ≡ i →
    change_kid f i (forest_of (trees front ++ t ∷ back)) ≡ forest_of (trees front ++ f t ∷ back)
kid_changed f zero [] t back e = refl
kid_changed f (suc i) [] t back e = absurd (omega arith)
kid_changed f zero (s ∷ front) t back e = absurd (omega arith)
kid_changed f (suc i) (s ∷ front) t back e = ap (tree (section_tree s)) (kid_changed f i front t back (omega arith))

-- how deep the document is, and how many nodes it has
depth_sections : (ss : List Section) → depth_of_all (forest_of (trees ss)) ≤ 2
depth_sections [] = omega arith
depth_sections (bare k ∷ ss) = omega (arith, depth_sections ss)
depth_sections (wrapped k ∷ ss) = omega (arith, depth_sections ss)

depth_around : (name : List ℕ) (front : List Section) (k : ℕ) (back : List Section) → depth_of_all (forest_of (with_around name front k back)) ≤ 2
depth_around name [] k back = omega (arith, depth_sections back)
depth_around name (bare j ∷ front) k back = omega (arith, depth_around name front k back)
depth_around name (wrapped j ∷ front) k back = omega (arith, depth_around name front k back)

pub nodes_sections : (ss : List Section) → nodes_in_all (forest_of (trees ss)) ≤ 3 * length ss
nodes_sections [] = omega arith
nodes_sections (bare k ∷ ss) = omega (arith, nodes_sections ss)
nodes_sections (wrapped k ∷ ss) = omega (arith, nodes_sections ss)

pub nodes_around : (name : List ℕ) (front : List Section) (k : ℕ) (back : List Section) →
    nodes_in_all (forest_of (with_around name front k back)) ≤ 3 * (length front + suc (length back))
nodes_around name [] k back = omega (arith, nodes_sections back)
nodes_around name (bare j ∷ front) k back = omega (arith, nodes_around name front k back)
nodes_around name (wrapped j ∷ front) k back = omega (arith, nodes_around name front k back)

-- no reason refuses where each test is false
passes : (a b c d e f : Bool) → a ≡ false → b ≡ false → c ≡ false → d ≡ false → e ≡ false → f ≡ false →
    unless a NoNode (unless b NotElement (unless c Range (unless d BadName (unless e RootShape (unless f Deep None))))) ≡ None
passes a b c d e f ea eb ec ed ee ef = rw (ea, eb, ec, ed, ee, ef) refl

module _ (name : List ℕ) (front back : List Section) (k i : ℕ) (place : length front ≡ i) where
  abbrev before : Tree Unit
  before = root_tree (trees front ++ bare_section k ∷ trees back)

  abbrev after : Tree Unit
  after = root_tree (with_around name front k back)

  node_there : node_below (suc i ∷ []) before ≡ Some (bare_section k)
  node_there = ap (λ o. option_and_then (node_below []) o) (kid_there i front (bare_section k) (trees back) place)

  spot_there : spot_at (0 ∷ suc i ∷ []) before ≡ Some (at_node (bare_section k))
  spot_there = ap (λ o. option_map at_node o) node_there

  list_there : list_at (0 ∷ suc i ∷ []) before ≡ Some (number_text k ∷ [])
  list_there = ap (λ o. option_and_then list_of o) node_there

  changed : root_after (0 ∷ suc i ∷ []) (change_of tt before (section_wrap (suc i) name)) before ≡ after
  changed = ap (λ ks. element (codes "doc") [] (tagged []) (tree head_tree ks) tt)
      (kid_changed (change_below [] (owner_after (change_of tt before (section_wrap (suc i) name)))) i front (bare_section k) (trees back) place)

  shallow : depth_of after ≤ MAX_DEPTH
  shallow = omega (arith, depth_around name front k back)

  not_deep : goes_too_deep (change_of tt before (section_wrap (suc i) name)) before ≡ false
  not_deep = ap (λ t. nat_lt MAX_DEPTH (depth_of t)) changed ∙ le-ltb MAX_DEPTH (depth_of after) shallow

  no_reason : is_name name ≡ true → reason_of tt before (section_wrap (suc i) name) ≡ None
  no_reason named = passes (lacks_node (0 ∷ suc i ∷ []) before) (lacks_list (0 ∷ suc i ∷ []) before) _ _ _ _
      (ap (λ o. not (is_given o)) spot_there) (ap (λ o. not (is_given o)) list_there) (ap (λ o. nat_lt 1 0 || nat_lt (length (items_of o)) 1) list_there)
      (ap not named) refl not_deep

  pub wrap_made : is_name name ≡ true → edit_outcome tt (drill_doc (trees front ++ bare_section k ∷ trees back)) (section_wrap (suc i) name) ≡ gives (drill_doc (with_around name front k back))
  wrap_made named =
      ap (λ r. outcome r (doc_after (change_of tt before (section_wrap (suc i) name)) (doc_of before))) (no_reason named)
      ∙ ap (λ t. gives (doc_of t)) changed
