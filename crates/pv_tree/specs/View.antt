-- The hedge that a tree shows: each text spread into its units; endings, marks and cuts between
-- texts aren't seen.
use Rattle.std.specs.Prelude.{ℕ, List, [], ◌∷◌, if◌then◌else◌}
use Rattle.pv_chars.specs.Texts.{is_data}
use Rattle.pv_tree.specs.Plain.{Tree, element, text_node, cdata_node, misc_node, Forest, no_trees}
use Rattle.pv_tree.specs.Plain.{tree}
use Rattle.pv_dtd.specs.Hedge.{Leaf, white, data_unit, cdata, misc, Hedge, done, leaf, elem}

abbrev pub unit_leaf : List ℕ → Leaf
unit_leaf unit = if is_data unit then data_unit unit else white unit

-- the units of a text before a hedge
abbrev pub spread : List (List ℕ) → Hedge → Hedge
spread [] h = h
spread (unit ∷ units) h = leaf (unit_leaf unit) (spread units h)

-- The hedge that a tree shows, before another. What a text shows is told by a function, which puts
-- its units before a hedge.
abbrev mutual
  pub shown_before : {M : Type 0} → (List (List ℕ) → Hedge → Hedge) → Tree M → Hedge → Hedge
  shown_before text (element x attrs ending kids mark) h = elem x attrs (shown_all text kids) h
  shown_before text (text_node units) h = text units h
  shown_before text (cdata_node bytes) h = leaf (cdata bytes) h
  shown_before text (misc_node bytes) h = leaf (misc bytes) h

  pub shown_all : {M : Type 0} → (List (List ℕ) → Hedge → Hedge) → Forest M → Hedge
  shown_all text no_trees = done
  shown_all text (tree t rest) = shown_before text t (shown_all text rest)

-- the tree before a hedge
abbrev pub view_before : {M : Type 0} → Tree M → Hedge → Hedge
view_before t h = shown_before spread t h

abbrev pub view_all : {M : Type 0} → Forest M → Hedge
view_all kids = shown_all spread kids

-- the hedge that a tree shows: each text is spread into its units; endings, marks and cuts of texts
-- aren't seen
abbrev pub view : {M : Type 0} → Tree M → Hedge
view t = view_before t done
