-- Laws of the numbers of parts: what stands within and after a part, and what is laid out flat.
use Rattle.std.specs.Prelude.{IsTrue, List, None, Option, Some, length, true, slice_get, suc, ℕ}
use Rattle.std.specs.Prelude.{◌+◌, ◌≡◌, ◌≤◌}
use Rattle.pv_model.specs.Plain.{PlainModel, PlainPart, PlainParts, children, choice, mixed, name}
use Rattle.pv_model.specs.Plain.{no_parts, opt, part, plus, seq, star}
use Rattle.std.specs.List.{list_all}
use Rattle.pv_dtd.specs.Facts.{is_formed_part, is_formed_model}
use Rattle.pv_dtd.specs.Plain.{PlainDtd, model_of, parts_in, parts_in_model, parts_in_models}
use Rattle.pv_rules.specs.Flat.{are_some, flat_contents, flat_parts, one_content, one_part}
use Rattle.pv_rules.specs.Flat.{membership_of}
use Rattle.pv_rules.specs.declared.flat.Membership.{Membership}
use Rattle.pv_rules.specs.declared.flat.Membership.TheVariants as membership
use Rattle.pv_rules.specs.Numbering.{IsMemberAt, first_part, numbered_models, part_at, rest_at}

pub record PartsByNumber (g : PlainDtd) : Type 0 where
  -- there are as many numbers as parts
  pub counted : length (numbered_models g.models) ≡ parts_in_models g.models
  -- a part has its number and the numbers of all within it below that
  pub within : (q : ℕ) (p : PlainPart) → part_at g q ≡ Some p →
      q + parts_in p ≤ parts_in_models g.models
  -- so has the content model of a name
  pub content_within : (x : ℕ) (m : PlainModel) → model_of g x ≡ Some m →
      first_part g x + parts_in_model m ≤ parts_in_models g.models
  -- the names of a mixed model, and the outermost particle of another
  pub listed : (x e y : ℕ) (ys : List ℕ) → model_of g x ≡ Some (mixed ys) →
      slice_get ys e ≡ Some y → part_at g (first_part g x + e) ≡ Some (name y)
  pub outermost : (x : ℕ) (p : PlainPart) → model_of g x ≡ Some (children p) →
      part_at g (first_part g x) ≡ Some p
  -- the particle within another
  pub in_opt : (q : ℕ) (p : PlainPart) → part_at g q ≡ Some (opt p) → part_at g (suc q) ≡ Some p
  pub in_star : (q : ℕ) (p : PlainPart) → part_at g q ≡ Some (star p) → part_at g (suc q) ≡ Some p
  pub in_plus : (q : ℕ) (p : PlainPart) → part_at g q ≡ Some (plus p) → part_at g (suc q) ≡ Some p
  -- the members of a choice
  pub in_choice : (q r : ℕ) (p : PlainPart) (ps : PlainParts) → part_at g q ≡ Some (choice ps) →
      IsMemberAt p r (suc q) ps → part_at g r ≡ Some p
  -- the members of a sequence, each one, and those after it
  pub in_seq : (q : ℕ) (p : PlainPart) (ps : PlainParts) → part_at g q ≡ Some (seq (part p ps)) →
      rest_at g (suc q) ≡ Some (part p ps)
  pub member : (q : ℕ) (p : PlainPart) (ps : PlainParts) → rest_at g q ≡ Some (part p ps) →
      part_at g q ≡ Some p
  pub next : (q : ℕ) (p r : PlainPart) (ps : PlainParts) → rest_at g q ≡ Some (part p (part r ps)) →
      rest_at g (q + parts_in p) ≡ Some (part r ps)

-- where the models are formed as every DTD's are, so is each part: a sequence has a member, and a
-- choice two
abbrev pub PartsAreFormed : PlainDtd → Type 0
PartsAreFormed g = IsTrue (list_all is_formed_model g.models) → (q : ℕ) (p : PlainPart) →
    part_at g q ≡ Some p → IsTrue (is_formed_part p)

-- of a part whose sequence has these members from it on
abbrev pub membership_at : Option PlainParts → Membership
membership_at None = membership.Outside
membership_at (Some no_parts) = membership.Outside
membership_at (Some (part p ps)) = membership_of true (are_some ps)

-- the parts laid out flat are those of the numbers, and the contents those of the names
pub record FlatByNumber (g : PlainDtd) : Type 0 where
  pub parts : (q : ℕ) (p : PlainPart) → part_at g q ≡ Some p →
      slice_get (flat_parts g) q ≡ Some (one_part q (membership_at (rest_at g q)) p)
  pub no_more : (q : ℕ) → part_at g q ≡ None → slice_get (flat_parts g) q ≡ None
  pub contents : (x : ℕ) (m : PlainModel) → model_of g x ≡ Some m →
      slice_get (flat_contents 0 g.models) x ≡ Some (one_content (first_part g x) m)
  pub no_content : (x : ℕ) → model_of g x ≡ None → slice_get (flat_contents 0 g.models) x ≡ None
