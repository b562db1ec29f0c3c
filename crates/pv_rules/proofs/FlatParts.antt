-- Parts laid out flat, one after another.
use Rattle.std.specs.Prelude.{Bool, false}
use Rattle.std.proofs.Common.{List, [], ap, append_assoc, arith, drop, get_or, inl, inr, length, length-append, length-drop, refl, subst, suc, sym, true, ℕ, ◌++◌, ◌+◌, ◌<◌, ◌∙◌, ◌∷◌, ◌≡◌, ◌≤◌, ◌⊎◌}
use Rattle.std.proofs.Math.ListN.{set}
use Rattle.std.proofs.Math.Seq.{drop-cons, get_or-append_seam, set-append_seam}
use Rattle.std.proofs.lemmas.Bool.{cases_lt, le-ltb, lt-ltb}
use Rattle.std.proofs.Math.Dec.{ltb}
use Rattle.pv_model.specs.Plain.{PlainPart, PlainParts, choice, name, no_parts, opt, part, plus, seq, star}
use Rattle.pv_model.specs.PlainForms.{plain_part, plain_parts}
use Rattle.pv_model.specs.declared.models.Part.{Part}
use Rattle.pv_dtd.specs.Plain.{parts_in, parts_in_all}
use Rattle.pv_rules.specs.Flat.{are_some, flat_members, flat_part, flat_within, kind_of, one_part, membership_of}
use Rattle.pv_rules.specs.declared.flat.FlatPart.{FlatPart}
use Rattle.pv_rules.specs.declared.flat.Membership.{Membership}
use Rattle.pv_rules.specs.declared.flat.Membership.TheVariants as membership

mutual
  pub length-flat_part : (q : ℕ) (f : Membership) (p : PlainPart) → length (flat_part q f p) ≡ parts_in p
  length-flat_part q f (name y) = refl
  length-flat_part q f (seq ps) = omega (arith, length-flat_members (suc q) true ps)
  length-flat_part q f (choice ps) = omega (arith, length-flat_members (suc q) false ps)
  length-flat_part q f (opt p) = omega (arith, length-flat_part (suc q) membership.Outside p)
  length-flat_part q f (star p) = omega (arith, length-flat_part (suc q) membership.Outside p)
  length-flat_part q f (plus p) = omega (arith, length-flat_part (suc q) membership.Outside p)

  pub length-flat_members : (q : ℕ) (s : Bool) (ps : PlainParts) → length (flat_members q s ps) ≡ parts_in_all ps
  length-flat_members q s no_parts = refl
  length-flat_members q s (part p ps) = omega (
    arith,
    length-append (flat_part q (membership_of s (are_some ps)) p) (flat_members (q + parts_in p) s ps),
    length-flat_part q (membership_of s (are_some ps)) p,
    length-flat_members (q + parts_in p) s ps,
  )

pub flat-within : (q : ℕ) (f : Membership) (p : PlainPart) → flat_part q f p ≡ one_part q f p ∷ flat_within (suc q) p
flat-within q f (name y) = refl
flat-within q f (seq ps) = refl
flat-within q f (choice ps) = refl
flat-within q f (opt p) = refl
flat-within q f (star p) = refl
flat-within q f (plus p) = refl

-- the list after one part and all within it
pushed : (old : List FlatPart) (d : FlatPart) (p : PlainPart) → (old ++ (d ∷ [])) ++ flat_within (length (old ++ (d ∷ []))) p ≡ old ++ (d ∷ flat_within (suc (length old)) p)
pushed old d p =
    let n : length (old ++ (d ∷ [])) ≡ suc (length old) = omega (arith, length-append old (d ∷ [])) in
    rw n (append_assoc old (d ∷ []) (flat_within (suc (length old)) p))

pub pushed_length : (old new : List FlatPart) (d : FlatPart) (p : PlainPart) → new ≡ (old ++ (d ∷ [])) ++ flat_within (length (old ++ (d ∷ []))) p →
    length new ≡ length old + parts_in p
pushed_length old new d p e =
    let f = ap length (e ∙ pushed old d p) in let g = ap length (flat-within (length old) membership.Outside p) in
    omega (arith, length-append old (d ∷ flat_within (suc (length old)) p), length-flat_part (length old) membership.Outside p)

at_seam : (old new : List FlatPart) (d e : FlatPart) (p : PlainPart) → new ≡ old ++ (d ∷ flat_within (suc (length old)) p) → e ≡ get_or new (length old) e → e ≡ d
at_seam old new d e p s h = h ∙ ap (λ x. get_or x (length old) e) s ∙ get_or-append_seam old d (flat_within (suc (length old)) p) e

-- and once its end is set
pub finished : (old new : List FlatPart) (n m : ℕ) (d e : FlatPart) (f : Membership) (p : PlainPart) → n ≡ length old → m ≡ length new → d.kind ≡ kind_of p → d.membership ≡ f →
    new ≡ (old ++ (d ∷ [])) ++ flat_within (length (old ++ (d ∷ []))) p → e ≡ get_or new n e →
    set new n (record { kind = e.kind; end = m; membership = e.membership }) ≡ old ++ flat_part (length old) f p
finished old new n m d e f p i j k l s h =
    let r = s ∙ pushed old d p in
    let a : e ≡ d = at_seam old new d e p r (rw i at h) in
    let z = pushed_length old new d p s in
    let x : record { kind = e.kind; end = m; membership = e.membership } ≡ one_part (length old) f p = let b : m ≡ length old + parts_in p = omega arith in cc in
    rw (i, r, x, flat-within (length old) f p) (set-append_seam old d (flat_within (suc (length old)) p) (one_part (length old) f p))

-- the first of the members that are left
pub more_members : (ps : List Part) (i : ℕ) (p : Part) → i < length ps → p ≡ get_or ps i p → plain_parts (drop i ps) ≡ part (plain_part p) (plain_parts (drop (i + 1) ps))
more_members ps i p l e = let c = drop-cons ps i p l in let z : suc i ≡ i + 1 = omega arith in rw (c, ← e, ← z) refl

pub some_parts : (ps : List Part) → 0 < length ps → are_some (plain_parts ps) ≡ true
some_parts [] l = absurd (omega arith)
some_parts (p ∷ ps) l = refl

pub no_more_parts : (ps : List Part) → length ps ≡ 0 → are_some (plain_parts ps) ≡ false
no_more_parts [] l = refl
no_more_parts (p ∷ ps) l = absurd (omega arith)

-- one member more
pub members_more : (old now new : List FlatPart) (i : ℕ) (s : Bool) (b : Membership) (ps : List Part) (p : Part) → i < length ps → p ≡ get_or ps i p →
    b ≡ membership_of s (are_some (plain_parts (drop (i + 1) ps))) → new ≡ now ++ flat_part (length now) b (plain_part p) →
    now ++ flat_members (length now) s (plain_parts (drop i ps)) ≡ old ++ flat_members (length old) s (plain_parts ps) →
    new ++ flat_members (length new) s (plain_parts (drop (i + 1) ps)) ≡ old ++ flat_members (length old) s (plain_parts ps)
members_more old now new i s b ps p l e f g h =
    let k : length new ≡ length now + parts_in (plain_part p) =
    let z = ap length g in omega (arith, length-append now (flat_part (length now) b (plain_part p)), length-flat_part (length now) b (plain_part p)) in
    let m = more_members ps i p l e in
    let r : now ++ flat_members (length now) s (part (plain_part p) (plain_parts (drop (i + 1) ps))) ≡ old ++ flat_members (length old) s (plain_parts ps) =
    subst (λ x. now ++ flat_members (length now) s x ≡ old ++ flat_members (length old) s (plain_parts ps)) m h in
    rw (k, g, f, append_assoc) r

-- whether a further member follows
follow_case : (i : ℕ) (ps : List Part) → (suc i ≤ length ps) ⊎ (length ps ≤ i) → ltb i (length ps) ≡ are_some (plain_parts (drop i ps))
follow_case i ps (inl l) = lt-ltb i (length ps) l ∙ sym (some_parts (drop i ps) (omega (arith, length-drop i ps)))
follow_case i ps (inr l) = le-ltb i (length ps) l ∙ sym (no_more_parts (drop i ps) (omega (arith, length-drop i ps)))

pub follows : (i : ℕ) (ps : List Part) → ltb i (length ps) ≡ are_some (plain_parts (drop i ps))
follows i ps = follow_case i ps (cases_lt i (length ps))

pub fits_more : (now new : List FlatPart) (i : ℕ) (b : Membership) (ps : List Part) (p : Part) → i < length ps → p ≡ get_or ps i p →
    new ≡ now ++ flat_part (length now) b (plain_part p) → length now + parts_in_all (plain_parts (drop i ps)) < 4294967296 →
    length new + parts_in_all (plain_parts (drop (i + 1) ps)) < 4294967296
fits_more now new i b ps p l e g h =
    let z = ap length g in let m = ap parts_in_all (more_members ps i p l e) in
    omega (arith, length-append now (flat_part (length now) b (plain_part p)), length-flat_part (length now) b (plain_part p))
