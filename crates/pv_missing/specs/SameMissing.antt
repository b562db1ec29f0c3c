-- Hedges with texts that no insertion cuts, and with no white units and no misc.
use Rattle.std.specs.Prelude.{Bool, List, None, Option, Some, false, if◌then◌else◌, true, ℕ, ◌↔◌}
use Rattle.pv_chars.specs.Texts.{has_data, joined}
use Rattle.pv_model.specs.Plain.{PlainModel, any, children, empty, mixed}
use Rattle.pv_dtd.specs.Plain.{PlainDtd, model_of, number_of}
use Rattle.pv_dtd.specs.Hedge.{Hedge, Leaf, cdata, data_unit, done, elem, leaf, misc, white}
use Rattle.pv_tree.specs.Plain.{Forest, Tree}
use Rattle.pv_tree.specs.View.{shown_all, shown_before}
use Rattle.pv_missing.specs.Completions.{IsLeast, IsPotentiallyValid}

-- the bytes of a text as one leaf, before a hedge
abbrev pub whole_leaf : List (List ℕ) → Leaf
whole_leaf units = if has_data units then data_unit (joined units) else white (joined units)

abbrev pub put_whole : List (List ℕ) → Hedge → Hedge
put_whole units h = leaf (whole_leaf units) h

-- the hedge that a tree shows, each text as one leaf
abbrev pub uncut_before : {M : Type 0} → Tree M → Hedge → Hedge
uncut_before t h = shown_before put_whole t h

abbrev pub uncut_all : {M : Type 0} → Forest M → Hedge
uncut_all kids = shown_all put_whole kids

-- the hedge of a tree, each text of which is one leaf, which no insertion cuts
abbrev pub uncut : {M : Type 0} → Tree M → Hedge
uncut t = uncut_before t done

-- whether elements of this model, or of this number, are to be empty
abbrev pub is_empty_model : Option PlainModel → Bool
is_empty_model (Some empty) = true
is_empty_model (Some any) = false
is_empty_model (Some (mixed ys)) = false
is_empty_model (Some (children p)) = false
is_empty_model None = false

abbrev pub is_empty_number : PlainDtd → Option ℕ → Bool
is_empty_number g (Some y) = is_empty_model (model_of g y)
is_empty_number g None = false

abbrev pub keep_if : Bool → Leaf → Hedge → Hedge
keep_if keep (white b) h = if keep then leaf (white b) h else h
keep_if keep (misc b) h = if keep then leaf (misc b) h else h
keep_if keep (data_unit b) h = leaf (data_unit b) h
keep_if keep (cdata b) h = leaf (cdata b) h

-- the hedge without its white units and misc, but for those in elements that are to be empty;
-- `keep` says whether its owner is such a one (XML 1.0, 2.10; 3, Element Valid)
abbrev pub bare : PlainDtd → Bool → Hedge → Hedge
bare g keep done = done
bare g keep (leaf l h) = keep_if keep l (bare g keep h)
bare g keep (elem x t k h) = elem x t (bare g (is_empty_number g (number_of g x)) k) (bare g keep h)

-- both hedges are potentially valid or neither is, and their least numbers of missing elements are
-- the same
pub record SameMissing (g : PlainDtd) (root : List ℕ) (h h2 : Hedge) : Type 0 where
  pub same_validity : IsPotentiallyValid g root h ↔ IsPotentiallyValid g root h2
  pub same_least : (n : ℕ) → IsLeast g root n h ↔ IsLeast g root n h2
