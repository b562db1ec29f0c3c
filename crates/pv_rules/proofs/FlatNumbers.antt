-- The parts laid out flat are those of the numbers.
use Rattle.std.specs.Prelude.{false, option_and_then, option_map}
use Rattle.std.proofs.Common.{List, None, Option, Some, [], ap, arith, length, map, refl, slice_get, suc, true, zero, ℕ, ◌++◌, ◌+◌, ◌∙◌, ◌∷◌, ◌≡◌}
use Rattle.pv_model.specs.Plain.{PlainModel, PlainPart, PlainParts, any, children, choice, empty, mixed, name, no_parts, opt, part, plus, seq, star}
use Rattle.pv_dtd.specs.Plain.{PlainDtd, parts_in, parts_in_model}
use Rattle.pv_rules.specs.Flat.{flat_contents, flat_members, flat_model, flat_models, flat_names, flat_part, flat_parts, one_content, one_part}
use Rattle.pv_rules.specs.Numbering.{Numbered, listed_name, numbered_particle, numbered_choices, numbered_members, numbered_model, numbered_models, parts_before}
use Rattle.pv_rules.specs.PartLaws.{FlatByNumber, membership_at}
use Rattle.pv_rules.specs.declared.flat.FlatPart.{FlatPart}
use Rattle.pv_rules.specs.declared.flat.Membership.TheVariants as membership
use Rattle.pv_rules.proofs.Numbers.{length-model, length-numbered_particle}

-- numbered parts laid out flat, from number q on
abbrev pub flat_from : ℕ → List Numbered → List FlatPart
flat_from q [] = []
flat_from q (e ∷ es) = one_part q (membership_at e.rest) e.self ∷ flat_from (suc q) es

flat_from-append : (q n : ℕ) (a b : List Numbered) → length a ≡ n → flat_from q (a ++ b) ≡ flat_from q a ++ flat_from (q + n) b
flat_from-append q n [] b l = let z : q + n ≡ q = omega arith in rw z refl
flat_from-append q zero (e ∷ a) b l = absurd (omega arith)
flat_from-append q (suc n) (e ∷ a) b l =
    let z : q + suc n ≡ suc q + n = omega arith in
    rw z (ap (λ x. one_part q (membership_at e.rest) e.self ∷ x) (flat_from-append (suc q) n a b (omega arith)))

mutual
  flat_is : (q : ℕ) (p : PlainPart) (r : Option PlainParts) → flat_part q (membership_at r) p ≡ flat_from q (numbered_particle p r)
  flat_is q (name y) r = refl
  flat_is q (seq ps) r = ap (λ x. one_part q (membership_at r) (seq ps) ∷ x) (members_are (suc q) ps)
  flat_is q (choice ps) r = ap (λ x. one_part q (membership_at r) (choice ps) ∷ x) (choices_are (suc q) ps)
  flat_is q (opt p) r = ap (λ x. one_part q (membership_at r) (opt p) ∷ x) (flat_is (suc q) p None)
  flat_is q (star p) r = ap (λ x. one_part q (membership_at r) (star p) ∷ x) (flat_is (suc q) p None)
  flat_is q (plus p) r = ap (λ x. one_part q (membership_at r) (plus p) ∷ x) (flat_is (suc q) p None)

  members_are : (q : ℕ) (ps : PlainParts) → flat_members q true ps ≡ flat_from q (numbered_members ps)
  members_are q no_parts = refl
  members_are q (part p ps) =
      rw (
        flat_from-append q (parts_in p) (numbered_particle p (Some (part p ps))) (numbered_members ps) (length-numbered_particle p (Some (part p ps))),
        ← flat_is q p (Some (part p ps)),
        ← members_are (q + parts_in p) ps,
      ) refl

  choices_are : (q : ℕ) (ps : PlainParts) → flat_members q false ps ≡ flat_from q (numbered_choices ps)
  choices_are q no_parts = refl
  choices_are q (part p ps) =
      rw (
        flat_from-append q (parts_in p) (numbered_particle p None) (numbered_choices ps) (length-numbered_particle p None),
        ← flat_is q p None,
        ← choices_are (q + parts_in p) ps,
      ) refl

names_are : (q : ℕ) (ys : List ℕ) → flat_names q ys ≡ flat_from q (map listed_name ys)
names_are q [] = refl
names_are q (y ∷ ys) = ap (λ x. one_part q membership.Outside (name y) ∷ x) (names_are (suc q) ys)

model_is : (q : ℕ) (m : PlainModel) → flat_model q m ≡ flat_from q (numbered_model m)
model_is q empty = refl
model_is q any = refl
model_is q (mixed ys) = names_are q ys
model_is q (children p) = flat_is q p None

models_are : (q : ℕ) (ms : List PlainModel) → flat_models q ms ≡ flat_from q (numbered_models ms)
models_are q [] = refl
models_are q (m ∷ ms) =
    rw (flat_from-append q (parts_in_model m) (numbered_model m) (numbered_models ms) (length-model m), ← model_is q m, ← models_are (q + parts_in_model m) ms) refl

at_flat : (L : List Numbered) (q k : ℕ) → slice_get (flat_from q L) k ≡ option_map (λ e. one_part (q + k) (membership_at e.rest) e.self) (slice_get L k)
at_flat [] q k = refl
at_flat (e ∷ es) q zero = let z : q + 0 ≡ q = omega arith in rw z refl
at_flat (e ∷ es) q (suc k) = let z : q + suc k ≡ suc q + k = omega arith in rw z (at_flat es (suc q) k)

module _ (g : PlainDtd) where
  entry : (q : ℕ) → slice_get (flat_parts g) q ≡ option_map (λ e. one_part q (membership_at e.rest) e.self) (slice_get (numbered_models g.models) q)
  entry q = let z : 0 + q ≡ q = omega arith in let a = at_flat (numbered_models g.models) 0 q in let b = rw z at a in ap (λ x. slice_get x q) (models_are 0 g.models) ∙ b

  some_entry : (q : ℕ) (p : PlainPart) (o : Option Numbered) → option_map (λ e. e.self) o ≡ Some p →
      option_map (λ e. one_part q (membership_at e.rest) e.self) o ≡ Some (one_part q (membership_at (option_and_then (λ e. e.rest) o)) p)
  some_entry q p None e = absurd cc
  some_entry q p (Some n) e = let i : n.self ≡ p = cc in rw i refl

  no_entry : (q : ℕ) (o : Option Numbered) → option_map (λ e. e.self) o ≡ None → option_map (λ e. one_part q (membership_at e.rest) e.self) o ≡ None
  no_entry q None e = refl
  no_entry q (Some n) e = absurd cc

contents_at : (ms : List PlainModel) (q x : ℕ) (m : PlainModel) → slice_get ms x ≡ Some m → slice_get (flat_contents q ms) x ≡ Some (one_content (q + parts_before ms x) m)
contents_at [] q x m e = absurd cc
contents_at (n ∷ ms) q zero m e = let i : n ≡ m = cc in let z : q + 0 ≡ q = omega arith in rw (i, z) refl
contents_at (n ∷ ms) q (suc x) m e =
    let z : q + (parts_in_model n + parts_before ms x) ≡ q + parts_in_model n + parts_before ms x = omega arith in rw z (contents_at ms (q + parts_in_model n) x m e)

no_content_at : (ms : List PlainModel) (q x : ℕ) → slice_get ms x ≡ None → slice_get (flat_contents q ms) x ≡ None
no_content_at [] q x e = refl
no_content_at (n ∷ ms) q zero e = absurd cc
no_content_at (n ∷ ms) q (suc x) e = no_content_at ms (q + parts_in_model n) x e

pub flat_by_number : (g : PlainDtd) → FlatByNumber g
flat_by_number g = record {
  parts = λ q p e. entry g q ∙ some_entry g q p (slice_get (numbered_models g.models) q) e;
  no_more = λ q e. entry g q ∙ no_entry g q (slice_get (numbered_models g.models) q) e;
  contents = λ x m e. let z : 0 + parts_before g.models x ≡ parts_before g.models x = omega arith in rw z at (contents_at g.models 0 x m e);
  no_content = λ x e. no_content_at g.models 0 x e;
}
