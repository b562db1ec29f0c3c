-- The parts and content models of a DTD laid out flat, each by itself.
use Rattle.std.specs.Prelude.{Bool, List, [], false, suc, true, ℕ, ◌++◌, ◌+◌, ◌∷◌}
use Rattle.pv_model.specs.Plain.{PlainModel, PlainPart, PlainParts, any, children, choice, empty}
use Rattle.pv_model.specs.Plain.{mixed, name, no_parts, opt, part, plus, seq, star}
use Rattle.pv_dtd.specs.Plain.{PlainDtd, parts_in, parts_in_model}
use Rattle.pv_rules.specs.declared.flat.ContentKind.{ContentKind}
use Rattle.pv_rules.specs.declared.flat.ContentKind.TheVariants as content
use Rattle.pv_rules.specs.declared.flat.FlatContent.{FlatContent}
use Rattle.pv_rules.specs.declared.flat.FlatPart.{FlatPart}
use Rattle.pv_rules.specs.declared.flat.Kind.{Kind}
use Rattle.pv_rules.specs.declared.flat.Kind.TheVariants as kind
use Rattle.pv_rules.specs.declared.flat.Membership.{Membership}
use Rattle.pv_rules.specs.declared.flat.Membership.TheVariants as membership

abbrev pub kind_of : PlainPart → Kind
kind_of (name y) = kind.Name (record { 0 = y })
kind_of (seq ps) = kind.Seq
kind_of (choice ps) = kind.Choice
kind_of (opt p) = kind.Opt
kind_of (star p) = kind.Star
kind_of (plus p) = kind.Plus

-- by whether a part is a member of a sequence, and whether more members follow
abbrev pub membership_of : Bool → Bool → Membership
membership_of false more = membership.Outside
membership_of true true = membership.Followed
membership_of true false = membership.Last

-- part number q
abbrev pub one_part : ℕ → Membership → PlainPart → FlatPart
one_part q m p = record { kind = kind_of p; end = q + parts_in p; membership = m }

abbrev pub are_some : PlainParts → Bool
are_some no_parts = false
are_some (part p ps) = true

-- a particle and all within it, from number q on
abbrev mutual
  pub flat_part : ℕ → Membership → PlainPart → List FlatPart
  flat_part q m (name y) = one_part q m (name y) ∷ []
  flat_part q m (seq ps) = one_part q m (seq ps) ∷ flat_members (suc q) true ps
  flat_part q m (choice ps) = one_part q m (choice ps) ∷ flat_members (suc q) false ps
  flat_part q m (opt p) = one_part q m (opt p) ∷ flat_part (suc q) membership.Outside p
  flat_part q m (star p) = one_part q m (star p) ∷ flat_part (suc q) membership.Outside p
  flat_part q m (plus p) = one_part q m (plus p) ∷ flat_part (suc q) membership.Outside p

  pub flat_members : ℕ → Bool → PlainParts → List FlatPart
  flat_members q in_sequence no_parts = []
  flat_members q in_sequence (part p ps) =
      flat_part q (membership_of in_sequence (are_some ps)) p ++
      flat_members (q + parts_in p) in_sequence ps

-- what is within a particle, from number q on
abbrev pub flat_within : ℕ → PlainPart → List FlatPart
flat_within q (name y) = []
flat_within q (seq ps) = flat_members q true ps
flat_within q (choice ps) = flat_members q false ps
flat_within q (opt p) = flat_part q membership.Outside p
flat_within q (star p) = flat_part q membership.Outside p
flat_within q (plus p) = flat_part q membership.Outside p

abbrev pub flat_names : ℕ → List ℕ → List FlatPart
flat_names q [] = []
flat_names q (y ∷ ys) = one_part q membership.Outside (name y) ∷ flat_names (suc q) ys

abbrev pub flat_model : ℕ → PlainModel → List FlatPart
flat_model q empty = []
flat_model q any = []
flat_model q (mixed ys) = flat_names q ys
flat_model q (children p) = flat_part q membership.Outside p

abbrev pub flat_models : ℕ → List PlainModel → List FlatPart
flat_models q [] = []
flat_models q (m ∷ ms) = flat_model q m ++ flat_models (q + parts_in_model m) ms

-- the parts of a DTD, each by itself, by number
abbrev pub flat_parts : PlainDtd → List FlatPart
flat_parts g = flat_models 0 g.models

-- the content of a name: what its model is, and the numbers of its parts
abbrev pub content_kind_of : PlainModel → ContentKind
content_kind_of empty = content.Empty
content_kind_of any = content.Any
content_kind_of (mixed ys) = content.Mixed
content_kind_of (children p) = content.Children

abbrev pub one_content : ℕ → PlainModel → FlatContent
one_content q m = record { kind = content_kind_of m; first = q; end = q + parts_in_model m }

-- content models, each by itself, the first part of the first having number q
abbrev pub flat_contents : ℕ → List PlainModel → List FlatContent
flat_contents q [] = []
flat_contents q (m ∷ ms) = one_content q m ∷ flat_contents (q + parts_in_model m) ms
