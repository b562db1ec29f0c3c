-- What stands at a number, by what is laid out flat there.
use Rattle.std.proofs.Common.{None, Option, Some, ap, arith, refl, slice_get, sym, ℕ, ◌+◌, ◌<◌, ◌∙◌, ◌≡◌}
use Rattle.pv_model.specs.Plain.{PlainPart, PlainParts, choice, name, no_parts, opt, part, plus, seq, star}
use Rattle.pv_model.specs.declared.models.NameId.{NameId}
use Rattle.pv_dtd.specs.Plain.{PlainDtd, parts_in}
use Rattle.pv_rules.specs.Flat.{flat_parts, kind_of, one_part}
use Rattle.pv_rules.specs.Numbering.{part_at, rest_at}
use Rattle.pv_rules.specs.PartLaws.{membership_at}
use Rattle.pv_rules.specs.declared.flat.FlatPart.{FlatPart}
use Rattle.pv_rules.specs.declared.flat.Kind.TheVariants as kind
use Rattle.pv_rules.specs.declared.flat.Membership.TheVariants as membership
use Rattle.pv_rules.proofs.Facts.{parts_by_number}
use Rattle.pv_rules.proofs.FlatNumbers.{flat_by_number}
use Rattle.pv_rules.proofs.Members.{some_part}

abbrev id_of : ℕ → NameId
id_of y = record { 0 = y }

-- no members from there on
abbrev pub IsNoRest : Option PlainParts → Type 0
IsNoRest None = Unit {0}
IsNoRest (Some no_parts) = Unit {0}
IsNoRest (Some (part p ps)) = ⊥

module _ (g : PlainDtd) where
  -- the part that a flat one was made of
  pub record Made (q : ℕ) (f : FlatPart) : Type 0 where
    pub part : PlainPart
    pub is_at : part_at g q ≡ Some part
    pub is_flat : f ≡ one_part q (membership_at (rest_at g q)) part

  made_case : (q : ℕ) (f : FlatPart) (o : Option PlainPart) → part_at g q ≡ o → slice_get (flat_parts g) q ≡ Some f → Made q f
  made_case q f None e h = let n = (flat_by_number g).no_more q e in absurd cc
  made_case q f (Some p) e h = record { part = p; is_at = e; is_flat = let n = (flat_by_number g).parts q p e in cc }

  pub made : (q : ℕ) (f : FlatPart) → slice_get (flat_parts g) q ≡ Some f → Made q f
  made q f h = made_case q f (part_at g q) refl h

  pub some_flat : (q : ℕ) (p : PlainPart) → part_at g q ≡ Some p → slice_get (flat_parts g) q ≡ Some (one_part q (membership_at (rest_at g q)) p)
  some_flat q p e = (flat_by_number g).parts q p e

  pub end_of : (q : ℕ) (f : FlatPart) (p : PlainPart) → part_at g q ≡ Some p → slice_get (flat_parts g) q ≡ Some f → f.end ≡ q + parts_in p
  end_of q f p e h = let n = some_flat q p e in let i : f ≡ one_part q (membership_at (rest_at g q)) p = cc in ap (λ (x : FlatPart). x.end) i

  missing_case : (q : ℕ) (o : Option PlainPart) → part_at g q ≡ o → slice_get (flat_parts g) q ≡ None → part_at g q ≡ None
  missing_case q None e h = e
  missing_case q (Some p) e h = let n = some_flat q p e in absurd cc

  pub no_part : (q : ℕ) → slice_get (flat_parts g) q ≡ None → part_at g q ≡ None
  no_part q h = missing_case q (part_at g q) refl h

  name_case : (q y : ℕ) (p : PlainPart) → kind_of p ≡ kind.Name (record { 0 = y }) → part_at g q ≡ Some p → part_at g q ≡ Some (name y)
  name_case q y (name x) e h = let n : id_of x ≡ id_of y = cc in let i : x ≡ y = ap (λ (id : NameId). id.0) n in rw i at h
  name_case q y (seq ps) e h = absurd cc
  name_case q y (choice ps) e h = absurd cc
  name_case q y (opt p) e h = absurd cc
  name_case q y (star p) e h = absurd cc
  name_case q y (plus p) e h = absurd cc

  pub name_at : (q y : ℕ) (f : FlatPart) → slice_get (flat_parts g) q ≡ Some f → f.kind ≡ kind.Name (record { 0 = y }) → part_at g q ≡ Some (name y)
  name_at q y f h e = let m = made q f h in let i = m.is_flat in name_case q y m.part (cc) m.is_at

  seq_case : (q : ℕ) (o : PlainPart) → kind_of o ≡ kind.Seq → part_at g q ≡ Some o → (ps : PlainParts) × (o ≡ seq ps) × (part_at g q ≡ Some (seq ps))
  seq_case q (name y) e h = absurd cc
  seq_case q (seq ps) e h = (ps, refl, h)
  seq_case q (choice ps) e h = absurd cc
  seq_case q (opt p) e h = absurd cc
  seq_case q (star p) e h = absurd cc
  seq_case q (plus p) e h = absurd cc

  pub seq_at : (q : ℕ) (f : FlatPart) → slice_get (flat_parts g) q ≡ Some f → f.kind ≡ kind.Seq → (ps : PlainParts) × (part_at g q ≡ Some (seq ps)) × (f.end ≡ q + parts_in (seq ps))
  seq_at q f h e = let m = made q f h in let i = m.is_flat in let c = seq_case q m.part (cc) m.is_at in let a = c.1 in (c.0, c.2, cc)

  choice_case : (q : ℕ) (o : PlainPart) → kind_of o ≡ kind.Choice → part_at g q ≡ Some o → (ps : PlainParts) × (o ≡ choice ps) × (part_at g q ≡ Some (choice ps))
  choice_case q (name y) e h = absurd cc
  choice_case q (seq ps) e h = absurd cc
  choice_case q (choice ps) e h = (ps, refl, h)
  choice_case q (opt p) e h = absurd cc
  choice_case q (star p) e h = absurd cc
  choice_case q (plus p) e h = absurd cc

  pub choice_at : (q : ℕ) (f : FlatPart) → slice_get (flat_parts g) q ≡ Some f → f.kind ≡ kind.Choice → (ps : PlainParts) × (part_at g q ≡ Some (choice ps)) × (f.end ≡ q + parts_in (choice ps))
  choice_at q f h e = let m = made q f h in let i = m.is_flat in let c = choice_case q m.part (cc) m.is_at in let a = c.1 in (c.0, c.2, cc)

  opt_case : (q : ℕ) (o : PlainPart) → kind_of o ≡ kind.Opt → part_at g q ≡ Some o → (p : PlainPart) × (o ≡ opt p) × (part_at g q ≡ Some (opt p))
  opt_case q (name y) e h = absurd cc
  opt_case q (seq ps) e h = absurd cc
  opt_case q (choice ps) e h = absurd cc
  opt_case q (opt p) e h = (p, refl, h)
  opt_case q (star p) e h = absurd cc
  opt_case q (plus p) e h = absurd cc

  pub opt_at : (q : ℕ) (f : FlatPart) → slice_get (flat_parts g) q ≡ Some f → f.kind ≡ kind.Opt → (p : PlainPart) × (part_at g q ≡ Some (opt p)) × (f.end ≡ q + parts_in (opt p))
  opt_at q f h e = let m = made q f h in let i = m.is_flat in let c = opt_case q m.part (cc) m.is_at in let a = c.1 in (c.0, c.2, cc)

  star_case : (q : ℕ) (o : PlainPart) → kind_of o ≡ kind.Star → part_at g q ≡ Some o → (p : PlainPart) × (o ≡ star p) × (part_at g q ≡ Some (star p))
  star_case q (name y) e h = absurd cc
  star_case q (seq ps) e h = absurd cc
  star_case q (choice ps) e h = absurd cc
  star_case q (opt p) e h = absurd cc
  star_case q (star p) e h = (p, refl, h)
  star_case q (plus p) e h = absurd cc

  pub star_at : (q : ℕ) (f : FlatPart) → slice_get (flat_parts g) q ≡ Some f → f.kind ≡ kind.Star → (p : PlainPart) × (part_at g q ≡ Some (star p)) × (f.end ≡ q + parts_in (star p))
  star_at q f h e = let m = made q f h in let i = m.is_flat in let c = star_case q m.part (cc) m.is_at in let a = c.1 in (c.0, c.2, cc)

  plus_case : (q : ℕ) (o : PlainPart) → kind_of o ≡ kind.Plus → part_at g q ≡ Some o → (p : PlainPart) × (o ≡ plus p) × (part_at g q ≡ Some (plus p))
  plus_case q (name y) e h = absurd cc
  plus_case q (seq ps) e h = absurd cc
  plus_case q (choice ps) e h = absurd cc
  plus_case q (opt p) e h = absurd cc
  plus_case q (star p) e h = absurd cc
  plus_case q (plus p) e h = (p, refl, h)

  pub plus_at : (q : ℕ) (f : FlatPart) → slice_get (flat_parts g) q ≡ Some f → f.kind ≡ kind.Plus → (p : PlainPart) × (part_at g q ≡ Some (plus p)) × (f.end ≡ q + parts_in (plus p))
  plus_at q f h e = let m = made q f h in let i = m.is_flat in let c = plus_case q m.part (cc) m.is_at in let a = c.1 in (c.0, c.2, cc)

  outside_case : (r : Option PlainParts) → membership_at r ≡ membership.Outside → IsNoRest r
  outside_case None e = tt
  outside_case (Some no_parts) e = tt
  outside_case (Some (part p no_parts)) e = absurd cc
  outside_case (Some (part p (part o ps))) e = absurd cc

  pub outside_at : (q : ℕ) (f : FlatPart) → slice_get (flat_parts g) q ≡ Some f → f.membership ≡ membership.Outside → IsNoRest (rest_at g q)
  outside_at q f h e = let m = made q f h in let i = ap (λ (x : FlatPart). x.membership) m.is_flat in outside_case (rest_at g q) (sym i ∙ e)

  last_case : (q : ℕ) (r : Option PlainParts) → membership_at r ≡ membership.Last → rest_at g q ≡ r → (p : PlainPart) × (rest_at g q ≡ Some (part p no_parts))
  last_case q None e h = absurd cc
  last_case q (Some no_parts) e h = absurd cc
  last_case q (Some (part p no_parts)) e h = (p, h)
  last_case q (Some (part p (part o ps))) e h = absurd cc

  pub last_at : (q : ℕ) (f : FlatPart) → slice_get (flat_parts g) q ≡ Some f → f.membership ≡ membership.Last → (p : PlainPart) × (rest_at g q ≡ Some (part p no_parts))
  last_at q f h e = let m = made q f h in let i = ap (λ (x : FlatPart). x.membership) m.is_flat in last_case q (rest_at g q) (sym i ∙ e) refl

  followed_case : (q : ℕ) (r : Option PlainParts) → membership_at r ≡ membership.Followed → rest_at g q ≡ r →
      (p : PlainPart) × (o : PlainPart) × (ps : PlainParts) × (rest_at g q ≡ Some (part p (part o ps)))
  followed_case q None e h = absurd cc
  followed_case q (Some no_parts) e h = absurd cc
  followed_case q (Some (part p no_parts)) e h = absurd cc
  followed_case q (Some (part p (part o ps))) e h = (p, o, ps, h)

  pub followed_at : (q : ℕ) (f : FlatPart) → slice_get (flat_parts g) q ≡ Some f → f.membership ≡ membership.Followed →
      (p : PlainPart) × (o : PlainPart) × (ps : PlainParts) × (rest_at g q ≡ Some (part p (part o ps))) × (f.end ≡ q + parts_in p)
  followed_at q f h e =
      let m = made q f h in let i = ap (λ (x : FlatPart). x.membership) m.is_flat in let c = followed_case q (rest_at g q) (sym i ∙ e) refl in
      (c.0, c.1, c.2, c.3, end_of q f c.0 ((parts_by_number g).member q c.0 (part c.1 c.2) c.3) h)

  no_rest_case : (q : ℕ) (r : Option PlainParts) → part_at g q ≡ None → rest_at g q ≡ r → IsNoRest r
  no_rest_case q None e h = tt
  no_rest_case q (Some no_parts) e h = tt
  no_rest_case q (Some (part p ps)) e h = absurd (let z = (parts_by_number g).member q p ps h in cc)

  pub no_rest : (q : ℕ) → slice_get (flat_parts g) q ≡ None → IsNoRest (rest_at g q)
  no_rest q h = no_rest_case q (rest_at g q) (no_part q h) refl

  -- numbers within a part fit
  pub ends_behind : (q : ℕ) (f : FlatPart) → slice_get (flat_parts g) q ≡ Some f → q < f.end
  ends_behind q f h = let m = made q f h in let l = some_part m.part in let e : f.end ≡ q + parts_in m.part = let i = m.is_flat in cc in omega arith
