-- What a document keeps of each of its nodes.
use Rattle.std.proofs.Common.{◌≡◌, ◌≢◌, refl, ℕ, true, false, List, [], ◌∷◌}
use Rattle.std.proofs.lemmas.Bool.{and_parts, and_from}
use Rattle.pv_chars.specs.Names.{is_name}
use Rattle.pv_chars.specs.Units.{AllUnits}
use Rattle.pv_chars.specs.Markup.{IsCdata}
use Rattle.pv_tree.specs.Attributes.{IsAttributes, IsKnownReference}
use Rattle.pv_tree.specs.Prolog.{IsCommentOrInstruction}
use Rattle.pv_tree.specs.Plain.{Ending, short, tagged, Tree, element, text_node, cdata_node, misc_node, Forest, no_trees, tree, forest_of}
use Rattle.pv_tree.specs.Legal.{fits_kids, is_formed, are_formed, has_names, have_names, IsLegalEnding, IsLegal, AreLegal}
use Rattle.pv_tree.specs.Units.{HasUnits, HaveUnits}
use Rattle.pv_edit.specs.Changes.{ending_after, change_kid}
use Rattle.pv_edit.proofs.NodePlaces.{KidAt, first, later}
use Rattle.pv_edit.proofs.EachNode.{EachNode, EachNodes, StaysAbove}

-- the name of an element is a Name
abbrev pub Named : {M : Type 0} → Tree M → Type 0
Named (element x attrs e kids m) = is_name x ≡ true
Named (text_node units) = Unit {0}
Named (cdata_node bytes) = Unit {0}
Named (misc_node bytes) = Unit {0}

-- `/>` stands only where there are no kids
abbrev pub Formed : {M : Type 0} → Tree M → Type 0
Formed (element x attrs e kids m) = fits_kids e kids ≡ true
Formed (text_node units) = Unit {0}
Formed (cdata_node bytes) = Unit {0}
Formed (misc_node bytes) = Unit {0}

-- a text has a unit
abbrev pub United : {M : Type 0} → Tree M → Type 0
United (element x attrs e kids m) = Unit {0}
United (text_node units) = units ≢ []
United (cdata_node bytes) = Unit {0}
United (misc_node bytes) = Unit {0}

-- the bytes of the node itself are legal
abbrev pub Lawful : {M : Type 0} → Tree M → Type 0
Lawful (element x attrs e kids m) = IsAttributes IsKnownReference attrs × IsLegalEnding e
Lawful (text_node units) = AllUnits units
Lawful (cdata_node bytes) = IsCdata bytes
Lawful (misc_node bytes) = IsCommentOrInstruction bytes

mutual
  pub names-each : {M : Type 0} (t : Tree M) → has_names t ≡ true → EachNode Named t
  names-each (element x attrs e kids m) h = let p = and_parts (is_name x) (have_names kids) h in (p.0, all-names-each kids p.1)
  names-each (text_node units) h = tt
  names-each (cdata_node bytes) h = tt
  names-each (misc_node bytes) h = tt

  all-names-each : {M : Type 0} (f : Forest M) → have_names f ≡ true → EachNodes Named f
  all-names-each no_trees h = tt
  all-names-each (tree t rest) h = let p = and_parts (has_names t) (have_names rest) h in (names-each t p.0, all-names-each rest p.1)

mutual
  pub each-names : {M : Type 0} (t : Tree M) → EachNode Named t → has_names t ≡ true
  each-names (element x attrs e kids m) w = and_from (is_name x) (have_names kids) w.0 (all-each-names kids w.1)
  each-names (text_node units) w = refl
  each-names (cdata_node bytes) w = refl
  each-names (misc_node bytes) w = refl

  all-each-names : {M : Type 0} (f : Forest M) → EachNodes Named f → have_names f ≡ true
  all-each-names no_trees w = refl
  all-each-names (tree t rest) w = and_from (has_names t) (have_names rest) (each-names t w.0) (all-each-names rest w.1)

mutual
  pub formed-each : {M : Type 0} (t : Tree M) → is_formed t ≡ true → EachNode Formed t
  formed-each (element x attrs e kids m) h = let p = and_parts (fits_kids e kids) (are_formed kids) h in (p.0, all-formed-each kids p.1)
  formed-each (text_node units) h = tt
  formed-each (cdata_node bytes) h = tt
  formed-each (misc_node bytes) h = tt

  all-formed-each : {M : Type 0} (f : Forest M) → are_formed f ≡ true → EachNodes Formed f
  all-formed-each no_trees h = tt
  all-formed-each (tree t rest) h = let p = and_parts (is_formed t) (are_formed rest) h in (formed-each t p.0, all-formed-each rest p.1)

mutual
  pub each-formed : {M : Type 0} (t : Tree M) → EachNode Formed t → is_formed t ≡ true
  each-formed (element x attrs e kids m) w = and_from (fits_kids e kids) (are_formed kids) w.0 (all-each-formed kids w.1)
  each-formed (text_node units) w = refl
  each-formed (cdata_node bytes) w = refl
  each-formed (misc_node bytes) w = refl

  all-each-formed : {M : Type 0} (f : Forest M) → EachNodes Formed f → are_formed f ≡ true
  all-each-formed no_trees w = refl
  all-each-formed (tree t rest) w = and_from (is_formed t) (are_formed rest) (each-formed t w.0) (all-each-formed rest w.1)

mutual
  pub units-each : {M : Type 0} (t : Tree M) → HasUnits t → EachNode United t
  units-each (element x attrs e kids m) h = (tt, all-units-each kids h)
  units-each (text_node units) h = h
  units-each (cdata_node bytes) h = tt
  units-each (misc_node bytes) h = tt

  all-units-each : {M : Type 0} (f : Forest M) → HaveUnits f → EachNodes United f
  all-units-each no_trees h = tt
  all-units-each (tree t rest) h = (units-each t h.0, all-units-each rest h.1)

mutual
  pub each-units : {M : Type 0} (t : Tree M) → EachNode United t → HasUnits t
  each-units (element x attrs e kids m) w = all-each-units kids w.1
  each-units (text_node units) w = w
  each-units (cdata_node bytes) w = tt
  each-units (misc_node bytes) w = tt

  all-each-units : {M : Type 0} (f : Forest M) → EachNodes United f → HaveUnits f
  all-each-units no_trees w = tt
  all-each-units (tree t rest) w = (each-units t w.0, all-each-units rest w.1)

mutual
  pub legal-each : {M : Type 0} (t : Tree M) → IsLegal t → EachNode Lawful t
  legal-each (element x attrs e kids m) h = ((h.0, h.1), all-legal-each kids h.2)
  legal-each (text_node units) h = h
  legal-each (cdata_node bytes) h = h
  legal-each (misc_node bytes) h = h

  all-legal-each : {M : Type 0} (f : Forest M) → AreLegal f → EachNodes Lawful f
  all-legal-each no_trees h = tt
  all-legal-each (tree t rest) h = (legal-each t h.0, all-legal-each rest h.1)

mutual
  pub each-legal : {M : Type 0} (t : Tree M) → EachNode Lawful t → IsLegal t
  each-legal (element x attrs e kids m) w = (w.0.0, w.0.1, all-each-legal kids w.1)
  each-legal (text_node units) w = w
  each-legal (cdata_node bytes) w = w
  each-legal (misc_node bytes) w = w

  all-each-legal : {M : Type 0} (f : Forest M) → EachNodes Lawful f → AreLegal f
  all-each-legal no_trees w = tt
  all-each-legal (tree t rest) w = (each-legal t w.0, all-each-legal rest w.1)

pub names-stay : {M : Type 0} → StaysAbove {M = M} Named
names-stay = record { stays = λ x attrs e m g q h k p. p }

pub units-stay : {M : Type 0} → StaysAbove {M = M} United
units-stay = record { stays = λ x attrs e m g q h k p. tt }

pub legal-stay : {M : Type 0} → StaysAbove {M = M} Lawful
legal-stay = record { stays = λ x attrs e m g q h k p. p }

form-stays : {M : Type 0} (e : Ending) (g : Tree M → Tree M) {i : ℕ} {kids : Forest M} {k : Tree M} → KidAt i kids k → fits_kids e kids ≡ true → fits_kids e (change_kid g i kids) ≡ true
form-stays short g first h = absurd cc
form-stays short g (later q) h = absurd cc
form-stays (tagged gap) g q h = refl

pub formed-stay : {M : Type 0} → StaysAbove {M = M} Formed
formed-stay = record { stays = λ x attrs e m g q h k p. form-stays e g q p }

-- an element without attributes and with both tags
pub no-attributes : IsAttributes IsKnownReference []
no-attributes = record { attributes = []; space = []; are_attributes = record { pieces = []; are_pieces = tt; whole = refl }; is_space = refl; whole = refl }

pub owner-formed : {M : Type 0} (e : Ending) (ts : List (Tree M)) → fits_kids (ending_after false e ts) (forest_of ts) ≡ true
owner-formed short [] = refl
owner-formed short (t ∷ ts) = refl
owner-formed (tagged gap) ts = refl

pub owner-legal : {M : Type 0} (e : Ending) (ts : List (Tree M)) → IsLegalEnding e → IsLegalEnding (ending_after false e ts)
owner-legal short [] h = tt
owner-legal short (t ∷ ts) h = refl
owner-legal (tagged gap) ts h = h
