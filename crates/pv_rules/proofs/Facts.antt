-- What stands at the numbers within and after a part.
use Rattle.std.proofs.Common.{List, None, Some, [], ap, arith, length, length-append, refl, slice_get, suc, zero, ℕ, ◌+◌, ◌++◌, ◌∷◌, ◌≡◌, ◌≤◌}
use Rattle.pv_model.specs.Plain.{PlainModel, PlainPart, PlainParts, children, choice, mixed, name, opt, part, plus, seq, star}
use Rattle.pv_dtd.specs.Plain.{PlainDtd, model_of, parts_in, parts_in_model, parts_in_models}
use Rattle.pv_rules.specs.Numbering.{IsMemberAt, first_part, numbered_particle, numbered_models, part_at, parts_before, rest_at}
use Rattle.pv_rules.specs.PartLaws.{PartsByNumber}
use Rattle.pv_rules.proofs.PartNumbers.{first_items, others_items, part_after, part_items, part_is, part_within, rest_items, rest_is}
use Rattle.pv_rules.proofs.Numbers.{choice_items, length-models, length-numbered_particle, listed_at, model_items}

module _ (g : PlainDtd) where
  in_seq : (q : ℕ) (p : PlainPart) (ps : PlainParts) → part_at g q ≡ Some (seq (part p ps)) → rest_at g (suc q) ≡ Some (part p ps)
  in_seq q p ps e = let h = part_items g (seq (part p ps)) q e in rest_is g p ps (suc q) (part_within g (seq (part p ps)) q h.0 h.1)

  member : (q : ℕ) (p : PlainPart) (ps : PlainParts) → rest_at g q ≡ Some (part p ps) → part_at g q ≡ Some p
  member q p ps e = part_is g p q (Some (part p ps)) (first_items g p ps q (rest_items g (part p ps) q e))

  next : (q : ℕ) (p r : PlainPart) (ps : PlainParts) → rest_at g q ≡ Some (part p (part r ps)) → rest_at g (q + parts_in p) ≡ Some (part r ps)
  next q p r ps e = rest_is g r ps (q + parts_in p) (others_items g p (part r ps) q (rest_items g (part p (part r ps)) q e))

  listed : (x e y : ℕ) (ys : List ℕ) → model_of g x ≡ Some (mixed ys) → slice_get ys e ≡ Some y → part_at g (first_part g x + e) ≡ Some (name y)
  listed x e y ys m f = part_is g (name y) (first_part g x + e) None (listed_at (numbered_models g.models) (first_part g x) ys y e f (model_items g.models x (mixed ys) m))

  outermost : (x : ℕ) (p : PlainPart) → model_of g x ≡ Some (children p) → part_at g (first_part g x) ≡ Some p
  outermost x p m = part_is g p (first_part g x) None (model_items g.models x (children p) m)

  in_choice : (q r : ℕ) (p : PlainPart) (ps : PlainParts) → part_at g q ≡ Some (choice ps) → IsMemberAt p r (suc q) ps → part_at g r ≡ Some p
  in_choice q r p ps e m =
      let h = part_items g (choice ps) q e in
      part_is g p r None (choice_items (numbered_models g.models) p r (suc q) ps m (part_within g (choice ps) q h.0 h.1))

  within : (q : ℕ) (p : PlainPart) → part_at g q ≡ Some p → q + parts_in p ≤ parts_in_models g.models
  within q p e =
      let h = part_items g p q e in let s = h.1.starts in let l = ap length h.1.is_list in
      omega (
        arith,
        length-models g.models,
        length-numbered_particle p h.0,
        length-append h.1.front (numbered_particle p h.0 ++ h.1.back),
        length-append (numbered_particle p h.0) h.1.back,
      )

contents_within : (ms : List PlainModel) (x : ℕ) (m : PlainModel) → slice_get ms x ≡ Some m → parts_before ms x + parts_in_model m ≤ parts_in_models ms
contents_within [] x m e = absurd cc
contents_within (n ∷ ms) zero m e = let i : n ≡ m = cc in let z = ap parts_in_model i in omega arith
contents_within (n ∷ ms) (suc x) m e = let h = contents_within ms x m e in omega arith

pub parts_by_number : (g : PlainDtd) → PartsByNumber g
parts_by_number g = record {
  counted = length-models g.models;
  within = within g;
  content_within = λ x m e. contents_within g.models x m e;
  listed = listed g;
  outermost = outermost g;
  in_opt = λ q p e. part_after g (opt p) p q refl e;
  in_star = λ q p e. part_after g (star p) p q refl e;
  in_plus = λ q p e. part_after g (plus p) p q refl e;
  in_choice = in_choice g;
  in_seq = in_seq g;
  member = member g;
  next = next g;
}
