-- What every document keeps of its tree.
use Rattle.std.specs.Prelude.{ℕ, Bool, true, false, not, ◌&&◌, List, [], ◌∷◌, ◌++◌}
use Rattle.pv_chars.specs.Spaces.{IsOptionalSpace}
use Rattle.pv_chars.specs.Names.{is_name}
use Rattle.pv_chars.specs.Texts.{begins_close_mark}
use Rattle.pv_chars.specs.Units.{AllUnits}
use Rattle.pv_chars.specs.Markup.{IsCdata}
use Rattle.pv_tree.specs.Attributes.{IsAttributes, IsKnownReference}
use Rattle.pv_tree.specs.Prolog.{IsCommentOrInstruction}
use Rattle.pv_tree.specs.Plain.{Ending, short, tagged, Tree, element, text_node, cdata_node}
use Rattle.pv_tree.specs.Plain.{misc_node, Forest, no_trees, tree}

abbrev pub fits_kids : {M : Type 0} → Ending → Forest M → Bool
fits_kids short no_trees = true
fits_kids short (tree t rest) = false
fits_kids (tagged gap) kids = true

-- an empty-element tag stands only where there are no kids, at all depths (XML 1.0, 3.1)
abbrev mutual
  pub is_formed : {M : Type 0} → Tree M → Bool
  is_formed (element x attrs ending kids mark) = fits_kids ending kids && are_formed kids
  is_formed (text_node units) = true
  is_formed (cdata_node bytes) = true
  is_formed (misc_node bytes) = true

  pub are_formed : {M : Type 0} → Forest M → Bool
  are_formed no_trees = true
  are_formed (tree t rest) = is_formed t && are_formed rest

-- each element's name is a Name, at all depths (XML 1.0, 2.3)
abbrev mutual
  pub has_names : {M : Type 0} → Tree M → Bool
  has_names (element x attrs ending kids mark) = is_name x && have_names kids
  has_names (text_node units) = true
  has_names (cdata_node bytes) = true
  has_names (misc_node bytes) = true

  pub have_names : {M : Type 0} → Forest M → Bool
  have_names no_trees = true
  have_names (tree t rest) = has_names t && have_names rest

-- the bytes between the name of an end tag and its `>` are S?
abbrev pub IsLegalEnding : Ending → Type 0
IsLegalEnding short = Unit {0}
IsLegalEnding (tagged gap) = IsOptionalSpace gap

-- The other bytes of each node are legal: attributes, units, a CDATA section, a comment or
-- processing instruction (XML 1.0, 2.4 to 2.7, 3.1).
abbrev mutual
  pub IsLegal : {M : Type 0} → Tree M → Type 0
  IsLegal (element x attrs ending kids mark) =
      IsAttributes IsKnownReference attrs × IsLegalEnding ending × AreLegal kids
  IsLegal (text_node units) = AllUnits units
  IsLegal (cdata_node bytes) = IsCdata bytes
  IsLegal (misc_node bytes) = IsCommentOrInstruction bytes

  pub AreLegal : {M : Type 0} → Forest M → Type 0
  AreLegal no_trees = Unit {0}
  AreLegal (tree t rest) = IsLegal t × AreLegal rest

-- the units of the texts that stand at the front, one beside another
abbrev pub front_units : {M : Type 0} → Forest M → List (List ℕ)
front_units (tree (text_node units) rest) = units ++ front_units rest
front_units _ = []

-- `]]>` stands at the front of none of the ends of these units before the last so many
abbrev pub is_open : List (List ℕ) → List (List ℕ) → Bool
is_open [] after = true
is_open (unit ∷ units) after =
    not (begins_close_mark (unit ∷ units ++ after)) && is_open units after

-- no run of texts side by side spells `]]>`, at any depth (XML 1.0, 2.4)
abbrev mutual
  pub has_no_close_mark : {M : Type 0} → Tree M → Bool
  has_no_close_mark (element x attrs ending kids mark) = have_no_close_mark kids
  has_no_close_mark (text_node units) = true
  has_no_close_mark (cdata_node bytes) = true
  has_no_close_mark (misc_node bytes) = true

  pub have_no_close_mark : {M : Type 0} → Forest M → Bool
  have_no_close_mark no_trees = true
  have_no_close_mark (tree t rest) =
      has_no_close_mark t && starts_no_close_mark t rest && have_no_close_mark rest

  pub starts_no_close_mark : {M : Type 0} → Tree M → Forest M → Bool
  starts_no_close_mark (element x attrs ending kids mark) rest = true
  starts_no_close_mark (text_node units) rest = is_open units (front_units rest)
  starts_no_close_mark (cdata_node bytes) rest = true
  starts_no_close_mark (misc_node bytes) rest = true

-- the most elements one inside another
abbrev pub MAX_DEPTH : ℕ
MAX_DEPTH = 512

-- the most nodes
abbrev pub MAX_NODES : ℕ
MAX_NODES = 33554433
