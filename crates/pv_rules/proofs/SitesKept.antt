-- The right sides of a rule are sites of the DTD.
use Rattle.std.specs.Prelude.{IsSome, IsTrue, length, nat_lt, option_map, slice_get}
use Rattle.std.specs.List.{AllByRecursion, list_all}
use Rattle.std.proofs.Common.{List, None, Option, Some, [], Bool, arith, get_or, map, refl, suc, true, zero, ℕ, ◌++◌, ◌+◌, ◌<◌, ◌≡◌, ◌≤◌, ◌∷◌, ◌∙◌, sym}
use Rattle.std.proofs.lemmas.Bool.{and_parts, ltb-true}
use Rattle.std.proofs.lemmas.List.Folds.{list_all-append}
use Rattle.std.proofs.lemmas.Option.{slice_get-get_or}
use Rattle.pv_model.specs.Plain.{PlainModel, PlainPart, PlainParts, PlainToken, any, children, choice, empty, mixed, name, no_parts, opt, part, plus, seq, star}
use Rattle.pv_dtd.specs.Facts.{are_known}
use Rattle.pv_dtd.specs.Plain.{PlainDtd, declared, mentions, names_in, names_in_all, names_in_model}
use Rattle.pv_rules.specs.Laws.{RulesKeepSites}
use Rattle.pv_rules.specs.Numbering.{Numbered, first_part, listed_name, numbered_particle, numbered_choices, numbered_members, numbered_model, numbered_models, part_at, rest_at}
use Rattle.pv_rules.specs.Rules.{any_name, any_none, any_text, children_part, empty_none, kept, missing, mixed_name, mixed_none, mixed_text, opt_none}
use Rattle.pv_rules.specs.Rules.{opt_one, part_choice, part_name, part_seq, plus_more, plus_one, rest_last, rest_then, star_more, star_none}
use Rattle.pv_rules.proofs.Facts.{parts_by_number}

-- a part that is a name has a number below n
abbrev IsBelow : ℕ → PlainPart → Type 0
IsBelow n (name y) = y < n
IsBelow n (seq ps) = Unit {0}
IsBelow n (choice ps) = Unit {0}
IsBelow n (opt p) = Unit {0}
IsBelow n (star p) = Unit {0}
IsBelow n (plus p) = Unit {0}

abbrev AreBelow : ℕ → List Numbered → Type 0
AreBelow n es = AllByRecursion (λ (e : Numbered). IsBelow n e.self) es

abbrev is_below : ℕ → ℕ → Bool
is_below n y = nat_lt y n

joined : (n : ℕ) (a b : List Numbered) → AreBelow n a → AreBelow n b → AreBelow n (a ++ b)
joined n [] b f h = h
joined n (e ∷ a) b f h = (f.0, joined n a b f.1 h)

split : (n : ℕ) (a b : List ℕ) → list_all (is_below n) (a ++ b) ≡ true → (list_all (is_below n) a ≡ true) × (list_all (is_below n) b ≡ true)
split n a b e = and_parts (list_all (is_below n) a) (list_all (is_below n) b) (sym (list_all-append (is_below n) a b) ∙ e)

one_below : (n y : ℕ) → list_all (is_below n) (y ∷ []) ≡ true → y < n
one_below n y e = ltb-true y n (and_parts (is_below n y) true e).0

mutual
  below : (n : ℕ) (p : PlainPart) (r : Option PlainParts) → list_all (is_below n) (names_in p) ≡ true → AreBelow n (numbered_particle p r)
  below n (name y) r e = (one_below n y e, tt)
  below n (seq ps) r e = (tt, members_below n ps e)
  below n (choice ps) r e = (tt, choices_below n ps e)
  below n (opt p) r e = (tt, below n p None e)
  below n (star p) r e = (tt, below n p None e)
  below n (plus p) r e = (tt, below n p None e)

  members_below : (n : ℕ) (ps : PlainParts) → list_all (is_below n) (names_in_all ps) ≡ true → AreBelow n (numbered_members ps)
  members_below n no_parts e = tt
  members_below n (part p ps) e =
      let s = split n (names_in p) (names_in_all ps) e in
      joined n (numbered_particle p (Some (part p ps))) (numbered_members ps) (below n p (Some (part p ps)) s.0) (members_below n ps s.1)

  choices_below : (n : ℕ) (ps : PlainParts) → list_all (is_below n) (names_in_all ps) ≡ true → AreBelow n (numbered_choices ps)
  choices_below n no_parts e = tt
  choices_below n (part p ps) e =
      let s = split n (names_in p) (names_in_all ps) e in
      joined n (numbered_particle p None) (numbered_choices ps) (below n p None s.0) (choices_below n ps s.1)

listed_below : (n : ℕ) (ys : List ℕ) → list_all (is_below n) ys ≡ true → AreBelow n (map listed_name ys)
listed_below n [] e = tt
listed_below n (y ∷ ys) e = let s = split n (y ∷ []) ys e in (one_below n y s.0, listed_below n ys s.1)

model_below : (n : ℕ) (m : PlainModel) → list_all (is_below n) (names_in_model m) ≡ true → AreBelow n (numbered_model m)
model_below n empty e = tt
model_below n any e = tt
model_below n (mixed ys) e = listed_below n ys e
model_below n (children p) e = below n p None e

models_below : (n : ℕ) (ms : List PlainModel) → list_all (is_below n) (mentions ms) ≡ true → AreBelow n (numbered_models ms)
models_below n [] e = tt
models_below n (m ∷ ms) e =
    let s = split n (names_in_model m) (mentions ms) e in joined n (numbered_model m) (numbered_models ms) (model_below n m s.0) (models_below n ms s.1)

entry_below : (n : ℕ) (es : List Numbered) (q y : ℕ) → AreBelow n es → option_map (λ (e : Numbered). e.self) (slice_get es q) ≡ Some (name y) → y < n
entry_below n [] q y a e = absurd cc
entry_below n (d ∷ es) zero y a e = let i : d.self ≡ name y = cc in let b : IsBelow n (name y) = rw i at a.0 in b
entry_below n (d ∷ es) (suc q) y a e = entry_below n es q y a.1 e

-- a name that is a part is one of the DTD
pub name_below : (g : PlainDtd) (q y : ℕ) → IsTrue (are_known g) → part_at g q ≡ Some (name y) → y < length g.names
name_below g q y known e = entry_below (length g.names) (numbered_models g.models) q y (models_below (length g.names) g.models known) e

is_some : {A : Type 0} (o : Option A) (x : A) → o ≡ Some x → IsSome o
is_some o x e = rw e refl

module _ (g : PlainDtd) (w : List PlainToken) (known : IsTrue (are_known g)) (named : declared g ≤ length g.names) where
  listed_part : (x e : ℕ) (ys : List ℕ) → slice_get g.models x ≡ Some (mixed ys) → e < length ys → IsSome (part_at g (first_part g x + e))
  listed_part x e ys m lt =
      is_some (part_at g (first_part g x + e)) (name (get_or ys e 0)) ((parts_by_number g).listed x e (get_or ys e 0) ys m (slice_get-get_or ys e 0 lt))

pub sites_kept : (g : PlainDtd) (w : List PlainToken) → RulesKeepSites g w
sites_kept g w known named s i j c xs (kept x _ f) h = tt
sites_kept g w known named s i j c xs (missing x _ _ l) h = (h, tt)
sites_kept g w known named s i j c xs (empty_none x _ l m) h = tt
sites_kept g w known named s i j c xs (mixed_none x _ ys l m) h = tt
sites_kept g w known named s i j c xs (mixed_text x _ _ ys a l m f) h = (h, tt)
sites_kept g w known named s i j c xs (mixed_name x e _ k _ ys a b l m f) h = (listed_part g w known named x e ys m f, (h, tt))
sites_kept g w known named s i j c xs (any_none x _ l m) h = tt
sites_kept g w known named s i j c xs (any_text x _ _ a l m f) h = (h, tt)
sites_kept g w known named s i j c xs (any_name x y _ k _ a b l m d) h = (omega arith, (h, tt))
sites_kept g w known named s i j c xs (children_part x _ _ p l m) h = (is_some (part_at g (first_part g x)) p ((parts_by_number g).outermost x p m), tt)
sites_kept g w known named s i j c xs (part_name q y _ _ l e) h = (name_below g q y known e, tt)
sites_kept g w known named s i j c xs (part_seq q _ _ p ps l e) h = (is_some (rest_at g (suc q)) (part p ps) ((parts_by_number g).in_seq q p ps e), tt)
sites_kept g w known named s i j c xs (part_choice q r _ _ p ps l e m) h = (is_some (part_at g r) p ((parts_by_number g).in_choice q r p ps e m), tt)
sites_kept g w known named s i j c xs (opt_none q _ p l e) h = tt
sites_kept g w known named s i j c xs (opt_one q _ _ p l e) h = (is_some (part_at g (suc q)) p ((parts_by_number g).in_opt q p e), tt)
sites_kept g w known named s i j c xs (star_none q _ p l e) h = tt
sites_kept g w known named s i j c xs (star_more q _ k _ p a b l e) h = (is_some (part_at g (suc q)) p ((parts_by_number g).in_star q p e), (h, tt))
sites_kept g w known named s i j c xs (plus_one q _ _ p l e) h = (is_some (part_at g (suc q)) p ((parts_by_number g).in_plus q p e), tt)
sites_kept g w known named s i j c xs (plus_more q _ k _ p a b l e) h = (is_some (part_at g (suc q)) p ((parts_by_number g).in_plus q p e), (h, tt))
sites_kept g w known named s i j c xs (rest_last q _ _ p l e) h = (is_some (part_at g q) p ((parts_by_number g).member q p no_parts e), tt)
sites_kept g w known named s i j c xs (rest_then q _ k _ p r ps a b l e) h =
    (is_some (part_at g q) p ((parts_by_number g).member q p (part r ps) e), (is_some (rest_at g _) (part r ps) ((parts_by_number g).next q p r ps e), tt))
