-- Trees that can be written as a document text, and what completing them keeps of that.
use Rattle.std.specs.Prelude.{IsTrue, List, ℕ, ◌++◌, ◌≡◌}
use Rattle.std.specs.List.{list_all}
use Rattle.pv_chars.specs.Names.{is_name}
use Rattle.pv_dtd.specs.Plain.{PlainDtd}
use Rattle.pv_tree.specs.Legal.{AreLegal, are_formed, front_units, have_names, have_no_close_mark}
use Rattle.pv_tree.specs.Plain.{Forest, is_element, no_trees, tree}
use Rattle.pv_tree.specs.Units.{HaveUnits}
use Rattle.pv_complete.specs.GrownTrees.{Grows}

-- Each element's name is a Name, an empty-element tag stands only where there are no kids, each
-- text has a unit, all other bytes are legal, and no run of texts spells `]]>`.
pub record AreWritable {M : Type 0} (kids : Forest M) : Type 0 where
  pub named : IsTrue (have_names kids)
  pub formed : IsTrue (are_formed kids)
  pub units : HaveUnits kids
  pub legal : AreLegal kids
  pub no_close_mark : IsTrue (have_no_close_mark kids)

-- the first units are those in front of the second
abbrev pub AreInFront : List (List ℕ) → List (List ℕ) → Type 0
AreInFront us vs = (rest : List (List ℕ)) × (vs ≡ us ++ rest)

-- no tree is a text, a CDATA section, a comment or processing instruction
abbrev pub AreElements : {M : Type 0} → Forest M → Type 0
AreElements no_trees = Unit {0}
AreElements (tree t rest) = IsTrue (is_element t) × AreElements rest

-- The second forest can be written where the first can, no more units stand at its front, it is of
-- elements where the first is, and it is the first with new elements.
pub record KeepsWritable {M : Type 0} (kids new : Forest M) : Type 0 where
  pub writable : AreWritable kids → AreWritable new
  pub front : AreInFront (front_units new) (front_units kids)
  pub elements : AreElements kids → AreElements new
  pub grows : Grows kids new

-- each name of the DTD is a Name
abbrev pub HasNames : PlainDtd → Type 0
HasNames g = IsTrue (list_all is_name g.names)
