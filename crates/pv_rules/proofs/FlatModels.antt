-- Content models laid out flat, one after another.
use Rattle.std.proofs.Common.{List, Some, [], ap, append_assoc, arith, drop, length, length-append, refl, slice_get, subst, suc, zero, ℕ, ◌++◌, ◌+◌, ◌<◌, ◌∷◌, ◌≡◌}
use Rattle.pv_model.specs.Plain.{PlainModel, any, children, empty, mixed}
use Rattle.pv_dtd.specs.Plain.{parts_in_model, parts_in_models}
use Rattle.pv_rules.specs.Flat.{flat_contents, flat_model, flat_models, flat_names, one_content}
use Rattle.pv_rules.specs.declared.flat.FlatContent.{FlatContent}
use Rattle.pv_rules.specs.declared.flat.FlatPart.{FlatPart}
use Rattle.pv_rules.specs.declared.flat.Membership.TheVariants as membership
use Rattle.pv_rules.proofs.FlatParts.{length-flat_part}

length-flat_names : (q : ℕ) (ys : List ℕ) → length (flat_names q ys) ≡ length ys
length-flat_names q [] = refl
length-flat_names q (y ∷ ys) = omega (arith, length-flat_names (suc q) ys)

length-flat_model : (q : ℕ) (m : PlainModel) → length (flat_model q m) ≡ parts_in_model m
length-flat_model q empty = refl
length-flat_model q any = refl
length-flat_model q (mixed ys) = length-flat_names q ys
length-flat_model q (children p) = length-flat_part q membership.Outside p

-- the first of the models that are left
pub more_models : (ms : List PlainModel) (i : ℕ) (m : PlainModel) → slice_get ms i ≡ Some m → drop i ms ≡ m ∷ drop (i + 1) ms
more_models [] i m e = absurd cc
more_models (n ∷ ms) zero m e = let f : n ≡ m = cc in rw f refl
more_models (n ∷ ms) (suc i) m e = let z : suc i + 1 ≡ suc (i + 1) = omega arith in rw z (more_models ms i m e)

pub model_length : (now new : List FlatPart) (m : PlainModel) → new ≡ now ++ flat_model (length now) m → length new ≡ length now + parts_in_model m
model_length now new m g = let z = ap length g in omega (arith, length-append now (flat_model (length now) m), length-flat_model (length now) m)

-- one model more
pub parts_more : (now new all : List FlatPart) (i : ℕ) (ms : List PlainModel) (m : PlainModel) → slice_get ms i ≡ Some m →
    new ≡ now ++ flat_model (length now) m → now ++ flat_models (length now) (drop i ms) ≡ all → new ++ flat_models (length new) (drop (i + 1) ms) ≡ all
parts_more now new all i ms m e g h =
    let k = model_length now new m g in
    let r : now ++ flat_models (length now) (m ∷ drop (i + 1) ms) ≡ all = subst (λ x. now ++ flat_models (length now) x ≡ all) (more_models ms i m e) h in
    rw (k, g, append_assoc) r

pub contents_more : (now new all : List FlatContent) (old parts : List FlatPart) (i : ℕ) (ms : List PlainModel) (m : PlainModel) → slice_get ms i ≡ Some m →
    parts ≡ old ++ flat_model (length old) m → new ≡ now ++ (one_content (length old) m ∷ []) →
    now ++ flat_contents (length old) (drop i ms) ≡ all → new ++ flat_contents (length parts) (drop (i + 1) ms) ≡ all
contents_more now new all old parts i ms m e g f h =
    let k = model_length old parts m g in
    let r : now ++ flat_contents (length old) (m ∷ drop (i + 1) ms) ≡ all = subst (λ x. now ++ flat_contents (length old) x ≡ all) (more_models ms i m e) h in
    rw (k, f, append_assoc) r

pub model_fits : (now new : List FlatPart) (i : ℕ) (ms : List PlainModel) (m : PlainModel) → slice_get ms i ≡ Some m →
    new ≡ now ++ flat_model (length now) m → length now + parts_in_models (drop i ms) < 4294967296 → length new + parts_in_models (drop (i + 1) ms) < 4294967296
model_fits now new i ms m e g h = let k = model_length now new m g in let z = ap parts_in_models (more_models ms i m e) in omega arith

pub fits_now : (now : List FlatPart) (i : ℕ) (ms : List PlainModel) (m : PlainModel) → slice_get ms i ≡ Some m →
    length now + parts_in_models (drop i ms) < 4294967296 → length now + parts_in_model m < 4294967296
fits_now now i ms m e h = let z = ap parts_in_models (more_models ms i m e) in omega arith
