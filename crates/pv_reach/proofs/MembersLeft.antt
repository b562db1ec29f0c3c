-- The members of a sequence that a loop has not passed yet.
use Rattle.std.proofs.Common.{List, None, Option, Some, [], ap, append_assoc, arith, refl, slice_get, subst, suc, sym, ℕ, ◌++◌, ◌+◌, ◌-◌, ◌<◌, ◌∷◌, ◌≡◌}
use Rattle.pv_model.specs.Plain.{PlainPart, PlainParts, no_parts, part, seq}
use Rattle.pv_dtd.specs.Plain.{PlainDtd, parts_in, parts_in_models}
use Rattle.pv_rules.specs.Flat.{flat_parts}
use Rattle.pv_rules.specs.Numbering.{part_at, rest_at}
use Rattle.pv_rules.proofs.Facts.{parts_by_number}
use Rattle.pv_rules.specs.declared.flat.FlatPart.{FlatPart}
use Rattle.pv_rules.specs.declared.flat.Membership.TheVariants as membership
use Rattle.pv_rules.proofs.FlatKinds.{IsNoRest, followed_at, last_at, no_rest, outside_at}
use Rattle.pv_rules.proofs.FormedParts.{parts_formed}
use Rattle.pv_rules.proofs.Members.{some_part}
use Rattle.pv_reach.proofs.FormedDtds.{IsFormedDtd}
use Rattle.pv_reach.specs.Columns.{member_columns, part_column}
use Rattle.pv_reach.specs.Parts.{next_number}

-- of all these columns, those before the next member are there
pub data IsLeft (g : PlainDtd) (all xs : List ℕ) (next : Option ℕ) : Type 0 where
  none : next ≡ None → xs ≡ all → IsLeft g all xs next
  some : (q : ℕ) (p : PlainPart) (ps : PlainParts) → next ≡ Some q → rest_at g q ≡ Some (part p ps) → all ≡ xs ++ member_columns g q (part p ps) → IsLeft g all xs next

-- how many parts may still follow
abbrev pub parts_from : PlainDtd → Option ℕ → ℕ
parts_from g None = 0
parts_from g (Some q) = suc (parts_in_models g.models) - q

module _ (g : PlainDtd) where
  pub left_all : (q : ℕ) (ps : PlainParts) (next : Option ℕ) → ((ps ≡ no_parts) → ⊥) → part_at g q ≡ Some (seq ps) → next ≡ Some (suc q) → IsLeft g (member_columns g (suc q) ps) [] next
  left_all q no_parts next full e f = absurd (full refl)
  left_all q (part p ps) next full e f = some (suc q) p ps f ((parts_by_number g).in_seq q p ps e) refl

  member_number : (q : ℕ) (p : PlainPart) (ps : PlainParts) → rest_at g q ≡ Some (part p ps) → q + parts_in p < suc (parts_in_models g.models)
  member_number q p ps e = let a = (parts_by_number g).within q p ((parts_by_number g).member q p ps e) in omega arith

  next_case : (all xs ys : List ℕ) (q c : ℕ) (p : PlainPart) (ps : PlainParts) (after : Option ℕ) → rest_at g q ≡ Some (part p ps) → all ≡ xs ++ member_columns g q (part p ps) →
      c ≡ part_column g q → ys ≡ xs ++ (c ∷ []) → after ≡ next_number q (Some (part p ps)) → IsLeft g all ys after
  next_case all xs ys q c p no_parts after e f i h n = none n (let a = i in let b = f in rw (h, i) (sym f))
  next_case all xs ys q c p (part r rs) after e f i h n =
      some (q + parts_in p) r rs n ((parts_by_number g).next q p r rs e)
      (rw (h, i, append_assoc) f)

  pub left_more : (all xs ys : List ℕ) (q c : ℕ) (next after : Option ℕ) → IsLeft g all xs next → next ≡ Some q → c ≡ part_column g q → ys ≡ xs ++ (c ∷ []) → after ≡ next_number q (rest_at g q) →
      IsLeft g all ys after
  left_more all xs ys q c next after (none e f) s i h n = absurd cc
  left_more all xs ys q c next after (some r p ps e f a) s i h n =
      let z : r ≡ q = cc in let y = rw z at f in let x = rw z at a in
      next_case all xs ys q c p ps after y x i h (let P : Option PlainParts → Type 0 = λ v. after ≡ next_number q v in subst P y n)

  less_case : (q : ℕ) (p : PlainPart) (ps : PlainParts) (after : Option ℕ) →
      rest_at g q ≡ Some (part p ps) → after ≡ next_number q (Some (part p ps)) →
      parts_from g after < suc (parts_in_models g.models) - q
  less_case q p no_parts after e n = rw n (let a = member_number q p no_parts e in omega arith)
  less_case q p (part r rs) after e n = rw n (let a = member_number q p (part r rs) e in let b = some_part p in omega arith)

  pub left_less : (all xs : List ℕ) (q : ℕ) (next after : Option ℕ) → IsLeft g all xs next → next ≡ Some q → after ≡ next_number q (rest_at g q) → parts_from g after < parts_from g next
  left_less all xs q next after (none e f) s n = absurd cc
  left_less all xs q next after (some r p ps e f a) s n =
      let z : r ≡ q = cc in let y = rw z at f in rw s (less_case q p ps after y (let P : Option PlainParts → Type 0 = λ v. after ≡ next_number q v in subst P y n))

  pub left_none : (all xs : List ℕ) (next : Option ℕ) → IsLeft g all xs next → next ≡ None → xs ≡ all
  left_none all xs next (none e f) s = f
  left_none all xs next (some r p ps e f a) s = absurd cc

none_behind : (q : ℕ) (o : Option PlainParts) → IsNoRest o → next_number q o ≡ None
none_behind q None n = refl
none_behind q (Some no_parts) n = refl
none_behind q (Some (part p ps)) n = absurd n

module _ (g : PlainDtd) (q : ℕ) where
  pub next_of_none : slice_get (flat_parts g) q ≡ None → None ≡ next_number q (rest_at g q)
  next_of_none h = sym (none_behind q (rest_at g q) (no_rest g q h))

  module _ (f : FlatPart) (h : slice_get (flat_parts g) q ≡ Some f) where
    pub next_of_outside : f.membership ≡ membership.Outside → None ≡ next_number q (rest_at g q)
    next_of_outside m = sym (none_behind q (rest_at g q) (outside_at g q f h m))

    pub next_of_last : f.membership ≡ membership.Last → None ≡ next_number q (rest_at g q)
    next_of_last m = let a = last_at g q f h m in let P : Option PlainParts → Type 0 = λ v. None ≡ next_number q v in subst P (sym a.1) refl

    pub next_of_followed : f.membership ≡ membership.Followed → Some f.end ≡ next_number q (rest_at g q)
    next_of_followed m =
        let a = followed_at g q f h m in
        let P : Option PlainParts → Type 0 = λ v. Some f.end ≡ next_number q v in subst P (sym a.3) (ap (λ v. Some v) a.4)

pub full_seq : (g : PlainDtd) (q : ℕ) (ps : PlainParts) → IsFormedDtd g → part_at g q ≡ Some (seq ps) → ps ≡ no_parts → ⊥
full_seq g q no_parts formed e z = absurd (let f = parts_formed g formed.formed q (seq no_parts) e in cc)
full_seq g q (part p ps) formed e z = cc
