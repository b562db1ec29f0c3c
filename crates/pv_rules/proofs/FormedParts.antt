-- Each part is formed as the models are.
use Rattle.std.specs.Prelude.{IsTrue, nat_le, not, option_map, slice_get}
use Rattle.std.specs.List.{AllByRecursion, list_all}
use Rattle.std.proofs.Common.{List, None, Option, Some, [], map, refl, suc, true, zero, ℕ, ◌++◌, ◌≡◌, ◌∷◌}
use Rattle.std.proofs.lemmas.Bool.{and_parts}
use Rattle.pv_model.specs.Plain.{PlainModel, PlainPart, PlainParts, any, children, choice, empty, mixed, name, no_parts, opt, part, plus, seq, star}
use Rattle.pv_dtd.specs.Facts.{MAX_NESTING, are_formed_parts, has_operator, is_formed_part, is_formed_model, members, nesting}
use Rattle.pv_dtd.specs.Plain.{PlainDtd}
use Rattle.pv_rules.specs.Numbering.{Numbered, listed_name, numbered_particle, numbered_choices, numbered_members, numbered_model, numbered_models}
use Rattle.pv_rules.specs.PartLaws.{PartsAreFormed}

abbrev AreAllFormed : List Numbered → Type 0
AreAllFormed es = AllByRecursion (λ (e : Numbered). IsTrue (is_formed_part e.self)) es

joined : (a b : List Numbered) → AreAllFormed a → AreAllFormed b → AreAllFormed (a ++ b)
joined [] b f h = h
joined (e ∷ a) b f h = (f.0, joined a b f.1 h)

mutual
  formed : (p : PlainPart) (r : Option PlainParts) → is_formed_part p ≡ true → AreAllFormed (numbered_particle p r)
  formed (name y) r e = (e, tt)
  formed (seq ps) r e = (e, members_formed ps (and_parts (nat_le 1 (members ps)) (are_formed_parts ps) e).1)
  formed (choice ps) r e = (e, choices_formed ps (and_parts (nat_le 2 (members ps)) (are_formed_parts ps) e).1)
  formed (opt p) r e = (e, formed p None (and_parts (not (has_operator p)) (is_formed_part p) e).1)
  formed (star p) r e = (e, formed p None (and_parts (not (has_operator p)) (is_formed_part p) e).1)
  formed (plus p) r e = (e, formed p None (and_parts (not (has_operator p)) (is_formed_part p) e).1)

  members_formed : (ps : PlainParts) → are_formed_parts ps ≡ true → AreAllFormed (numbered_members ps)
  members_formed no_parts e = tt
  members_formed (part p ps) e =
      let s = and_parts (is_formed_part p) (are_formed_parts ps) e in
      joined (numbered_particle p (Some (part p ps))) (numbered_members ps) (formed p (Some (part p ps)) s.0) (members_formed ps s.1)

  choices_formed : (ps : PlainParts) → are_formed_parts ps ≡ true → AreAllFormed (numbered_choices ps)
  choices_formed no_parts e = tt
  choices_formed (part p ps) e =
      let s = and_parts (is_formed_part p) (are_formed_parts ps) e in
      joined (numbered_particle p None) (numbered_choices ps) (formed p None s.0) (choices_formed ps s.1)

listed_formed : (ys : List ℕ) → AreAllFormed (map listed_name ys)
listed_formed [] = tt
listed_formed (y ∷ ys) = (refl, listed_formed ys)

model_formed : (m : PlainModel) → is_formed_model m ≡ true → AreAllFormed (numbered_model m)
model_formed empty e = tt
model_formed any e = tt
model_formed (mixed ys) e = listed_formed ys
model_formed (children p) e = formed p None (and_parts (is_formed_part p) (nat_le (nesting p) MAX_NESTING) e).0

models_formed : (ms : List PlainModel) → list_all is_formed_model ms ≡ true → AreAllFormed (numbered_models ms)
models_formed [] e = tt
models_formed (m ∷ ms) e =
    let s = and_parts (is_formed_model m) (list_all is_formed_model ms) e in
    joined (numbered_model m) (numbered_models ms) (model_formed m s.0) (models_formed ms s.1)

entry_formed : (es : List Numbered) (q : ℕ) (p : PlainPart) → AreAllFormed es → option_map (λ (e : Numbered). e.self) (slice_get es q) ≡ Some p → IsTrue (is_formed_part p)
entry_formed [] q p a e = absurd cc
entry_formed (d ∷ es) zero p a e = let i : d.self ≡ p = cc in rw i at a.0
entry_formed (d ∷ es) (suc q) p a e = entry_formed es q p a.1 e

pub parts_formed : (g : PlainDtd) → PartsAreFormed g
parts_formed g f q p e = entry_formed (numbered_models g.models) q p (models_formed g.models f) e
