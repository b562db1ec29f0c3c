-- Every DTD of the program is a proper one, and what a proper one has.
use Rattle.std.specs.Prelude.{IsTrue, nat_le, not}
use Rattle.std.proofs.Common.{List, Some, arith, length, slice_get, suc, true, zero, ℕ, ◌<◌, ◌≡◌, ◌≢◌, ◌≤◌, ◌∷◌, []}
use Rattle.std.specs.List.{AllByRecursion, list_all}
use Rattle.std.proofs.lemmas.Bool.{and_parts}
use Rattle.std.proofs.lemmas.List.{length-map}
use Rattle.std.proofs.lemmas.Option.{slice_get-get_or, slice_get_within}
use Rattle.pv_model.specs.Plain.{PlainModel, PlainPart, PlainParts, any, children, choice, empty, mixed, name, no_parts, opt, part, plus, seq, star}
use Rattle.pv_dtd.specs.Facts.{MAX_NESTING, are_distinct, are_formed_parts, are_names, has_operator, is_short_name, is_formed_part, is_formed_model, members, nesting}
use Rattle.pv_dtd.specs.Plain.{PlainDtd, declared, model_of, number_of, spelling_of}
use Rattle.pv_dtd.specs.PlainForms.{plain_dtd}
use Rattle.pv_dtd.specs.Proper.{AreFullParts, IsFull, IsFullModel, IsProperDtd}
use Rattle.pv_dtd.specs.declared.dtd.Dtd.{Dtd}
use Rattle.pv_dtd.proofs.DistinctNumbers.{apart_from_distinct}
use Rattle.pv_dtd.proofs.NameSequences.{get-place}

some_members : (ps : PlainParts) → nat_le 1 (members ps) ≡ true → ps ≢ no_parts
some_members no_parts e f = absurd cc
some_members (part p ps) e f = cc

mutual
  full : (p : PlainPart) → is_formed_part p ≡ true → IsFull p
  full (name y) e = tt
  full (seq ps) e = let q = and_parts (nat_le 1 (members ps)) (are_formed_parts ps) e in (some_members ps q.0, all_full ps q.1)
  full (choice ps) e = all_full ps (and_parts (nat_le 2 (members ps)) (are_formed_parts ps) e).1
  full (opt p) e = full p (and_parts (not (has_operator p)) (is_formed_part p) e).1
  full (star p) e = full p (and_parts (not (has_operator p)) (is_formed_part p) e).1
  full (plus p) e = full p (and_parts (not (has_operator p)) (is_formed_part p) e).1

  all_full : (ps : PlainParts) → are_formed_parts ps ≡ true → AreFullParts ps
  all_full no_parts e = tt
  all_full (part p ps) e = let q = and_parts (is_formed_part p) (are_formed_parts ps) e in (full p q.0, all_full ps q.1)

full_model : (m : PlainModel) → is_formed_model m ≡ true → IsFullModel m
full_model empty e = tt
full_model any e = tt
full_model (mixed ys) e = tt
full_model (children p) e = full p (and_parts (is_formed_part p) (nat_le (nesting p) MAX_NESTING) e).0

full_all : (ms : List PlainModel) → list_all is_formed_model ms ≡ true → AllByRecursion IsFullModel ms
full_all [] e = tt
full_all (m ∷ ms) e = let p = and_parts (is_formed_model m) (list_all is_formed_model ms) e in (full_model m p.0, full_all ms p.1)

pub proper_dtd : (g : PlainDtd) → IsTrue (are_names g.names) → declared g ≤ length g.names → IsTrue (list_all is_formed_model g.models) → IsProperDtd g
proper_dtd g a b c = record { distinct = (and_parts (list_all is_short_name g.names) (are_distinct g.names) a).1; named = b; full = full_all g.models c }

pub proper : (d : Dtd) → IsProperDtd (plain_dtd d)
proper d = proper_dtd (plain_dtd d) d.distinct (simp length-map d.named) d.formed

all_at : {A : Type 0} (P : A → Type 0) (xs : List A) (i : ℕ) (x : A) → AllByRecursion P xs → slice_get xs i ≡ Some x → P x
all_at P [] i x a e = absurd cc
all_at P (y ∷ ys) zero x a e = let p : y ≡ x = cc in rw p at a.0
all_at P (y ∷ ys) (suc i) x a e = all_at P ys i x a.1 e

-- the content particle of a name's model
pub full_children : (g : PlainDtd) → IsProperDtd g → (y : ℕ) (p : PlainPart) → model_of g y ≡ Some (children p) → IsFull p
full_children g proper y p e = all_at IsFullModel g.models y (children p) proper.full e

-- numbers and names
pub one_name : (g : PlainDtd) (a b : List ℕ) (y : ℕ) → number_of g a ≡ Some y → number_of g b ≡ Some y → a ≡ b
one_name g a b y e f = let p = get-place g.names a y e in let q = get-place g.names b y f in cc

pub spelled : (g : PlainDtd) → IsProperDtd g → (y : ℕ) (m : PlainModel) → model_of g y ≡ Some m → number_of g (spelling_of g y) ≡ Some y
spelled g p y m e =
    let le : y < length g.names = let q = slice_get_within g.models y m e in let r = p.named in omega arith in
    apart_from_distinct g.names p.distinct y (spelling_of g y) (slice_get-get_or g.names y [] le)
