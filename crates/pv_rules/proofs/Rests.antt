-- Members from a number on: there is one, or there is no such site.
use Rattle.std.specs.Prelude.{IsSome, IsTrue, map, nat_lt, option_and_then, option_map, slice_get, ◌↔◌}
use Rattle.std.specs.List.{AllByRecursion}
use Rattle.std.proofs.Common.{List, None, Option, Some, [], arith, length, refl, suc}
use Rattle.std.proofs.Common.{zero, ℕ, ◌++◌, ◌<◌, ◌∷◌, ◌≡◌}
use Rattle.std.proofs.lemmas.Bool.{lt-ltb, ltb-true}
use Rattle.pv_model.specs.Plain.{PlainModel, PlainPart, PlainParts, any, children, choice, empty, mixed}
use Rattle.pv_model.specs.Plain.{name, no_parts, opt, part, plus, seq, star}
use Rattle.pv_dtd.specs.Plain.{PlainDtd, parts_in_models}
use Rattle.pv_rules.specs.Flat.{flat_parts}
use Rattle.pv_rules.specs.Numbering.{Numbered, listed_name, numbered_choices, numbered_members}
use Rattle.pv_rules.specs.Numbering.{numbered_model, numbered_models, numbered_particle, part_at, rest_at}
use Rattle.pv_rules.specs.declared.flat.FlatPart.{FlatPart}
use Rattle.pv_rules.specs.declared.flat.Membership.TheVariants as membership
use Rattle.pv_rules.proofs.Facts.{parts_by_number}
use Rattle.pv_rules.proofs.FlatKinds.{IsNoRest, followed_at, last_at, no_rest, outside_at}

-- no members, or one and those after it
abbrev IsFullRest : Option PlainParts → Type 0
IsFullRest None = Unit {0}
IsFullRest (Some no_parts) = ⊥
IsFullRest (Some (part p ps)) = Unit {0}

abbrev AreFull : List Numbered → Type 0
AreFull es = AllByRecursion (λ (e : Numbered). IsFullRest e.rest) es

joined : (a b : List Numbered) → AreFull a → AreFull b → AreFull (a ++ b)
joined [] b f h = h
joined (e ∷ a) b f h = (f.0, joined a b f.1 h)

mutual
  full : (p : PlainPart) (r : Option PlainParts) → IsFullRest r → AreFull (numbered_particle p r)
  full (name y) r e = (e, tt)
  full (seq ps) r e = (e, members_full ps)
  full (choice ps) r e = (e, choices_full ps)
  full (opt p) r e = (e, full p None tt)
  full (star p) r e = (e, full p None tt)
  full (plus p) r e = (e, full p None tt)

  members_full : (ps : PlainParts) → AreFull (numbered_members ps)
  members_full no_parts = tt
  members_full (part p ps) =
      joined (numbered_particle p (Some (part p ps))) (numbered_members ps)
      (full p (Some (part p ps)) tt) (members_full ps)

  choices_full : (ps : PlainParts) → AreFull (numbered_choices ps)
  choices_full no_parts = tt
  choices_full (part p ps) =
      joined (numbered_particle p None) (numbered_choices ps) (full p None tt) (choices_full ps)

listed_full : (ys : List ℕ) → AreFull (map listed_name ys)
listed_full [] = tt
listed_full (y ∷ ys) = (tt, listed_full ys)

model_full : (m : PlainModel) → AreFull (numbered_model m)
model_full empty = tt
model_full any = tt
model_full (mixed ys) = listed_full ys
model_full (children p) = full p None tt

models_full : (ms : List PlainModel) → AreFull (numbered_models ms)
models_full [] = tt
models_full (m ∷ ms) =
    joined (numbered_model m) (numbered_models ms) (model_full m) (models_full ms)

entry_full : (es : List Numbered) (q : ℕ) → AreFull es →
    IsFullRest (option_and_then (λ (e : Numbered). e.rest) (slice_get es q))
entry_full [] q a = tt
entry_full (e ∷ es) zero a = a.0
entry_full (e ∷ es) (suc q) a = entry_full es q a.1

module _ (g : PlainDtd) (q : ℕ) where
  no_site : (r : Option PlainParts) → IsFullRest r → IsNoRest r → ¬ IsSome r
  no_site None f n s = absurd cc
  no_site (Some no_parts) f n s = f
  no_site (Some (part p ps)) f n s = n

  no_rest_site : IsNoRest (rest_at g q) → ¬ IsSome (rest_at g q)
  no_rest_site n =
      no_site (rest_at g q) (entry_full (numbered_models g.models) q (models_full g.models)) n

  pub no_flat : slice_get (flat_parts g) q ≡ None → ¬ IsSome (rest_at g q)
  no_flat h = no_rest_site (no_rest g q h)

  module _ (f : FlatPart) (h : slice_get (flat_parts g) q ≡ Some f) where
    pub outside : f.membership ≡ membership.Outside → ¬ IsSome (rest_at g q)
    outside m = no_rest_site (outside_at g q f h m)

    pub last : f.membership ≡ membership.Last → IsSome (rest_at g q)
    last m = let a = last_at g q f h m in rw a.1 refl

    pub followed : f.membership ≡ membership.Followed → IsSome (rest_at g q)
    followed m = let a = followed_at g q f h m in rw a.3 refl

some_below : (es : List Numbered) (q : ℕ) → q < length es →
    IsSome (option_map (λ (e : Numbered). e.self) (slice_get es q))
some_below [] q l = absurd (omega arith)
some_below (e ∷ es) zero l = refl
some_below (e ∷ es) (suc q) l = some_below es q (omega arith)

below_some : (es : List Numbered) (q : ℕ) →
    IsSome (option_map (λ (e : Numbered). e.self) (slice_get es q)) → q < length es
below_some [] q s = absurd cc
below_some (e ∷ es) zero s = omega arith
below_some (e ∷ es) (suc q) s = let l = below_some es q s in omega arith

-- the numbers of parts are those below their count
pub part_below : (g : PlainDtd) (q n : ℕ) → n ≡ parts_in_models g.models →
    IsTrue (nat_lt q n) ↔ IsSome (part_at g q)
part_below g q n e = let c = (parts_by_number g).counted in (
  (λ b. let l = ltb-true q n b in some_below (numbered_models g.models) q (omega arith)),
  (λ s. let l = below_some (numbered_models g.models) q s in lt-ltb q n (omega arith)),
)
