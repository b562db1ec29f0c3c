-- Names that are among others, and their numbers.
use Rattle.std.proofs.Common.{◌≡◌, ℕ, List, [], ◌∷◌, ◌++◌, length, map, Bool, true, false, not, ◌||◌, cond, Option, Some, None, unwrap_or, is_some, refl, sym, ap, ◌∙◌}
use Rattle.std.proofs.Math.Bool.{or-false}
use Rattle.std.proofs.lemmas.Bool.{and_parts, or_right, lt-ltb}
use Rattle.std.proofs.lemmas.Bool.Decides.{Decides-eqb}
use Rattle.std.proofs.lemmas.Option.{slice_get_within}
use Rattle.std.proofs.lemmas.Slice.Eq.{bytes_eq-Decides}
use Rattle.std.specs.List.{list_all, list_any, slice_get}
use Rattle.std.specs.Prelude.{nat_eq, nat_lt}
use Rattle.std.specs.Str.{bytes_eq}
use Rattle.pv_dtd.specs.Plain.{place_of}
use Rattle.pv_dtd.specs.Facts.{are_distinct, are_distinct_numbers}
use Rattle.pv_dtd.specs.Numbering.{number_among, each_once}
use Rattle.pv_chars.proofs.ReaderSteps.{same_some}
use Rattle.pv_dtd.proofs.Places.{is_some-place}
use Rattle.pv_dtd.proofs.NameSequences.{get-place}

-- the place of one of the names
place_among : (x : List ℕ) (names : List (List ℕ)) → list_any (bytes_eq x) names ≡ true → (y : ℕ) × (place_of names x ≡ Some y) × (slice_get names y ≡ Some x)
place_among x names there = by (place_of names x) refl (is_some-place x names ∙ there)
  where
    by : (o : Option ℕ) → place_of names x ≡ o → is_some (place_of names x) ≡ true → (y : ℕ) × (place_of names x ≡ Some y) × (slice_get names y ≡ Some x)
    by None is some = let none = ap is_some is in cc
    by (Some y) is some = (y, is, get-place names x y is)

number_at : (x : List ℕ) (names : List (List ℕ)) → list_any (bytes_eq x) names ≡ true → slice_get names (number_among names x) ≡ Some x
number_at x names there = let p = place_among x names there in let is : number_among names x ≡ p.0 = ap (λ o. unwrap_or o 0) p.1 in ap (slice_get names) is ∙ p.2

-- these are among those
abbrev pub AreAmong : List (List ℕ) → List (List ℕ) → Type 0
AreAmong [] names = Unit {0}
AreAmong (x ∷ xs) names = (list_any (bytes_eq x) names ≡ true) × AreAmong xs names

pub known_all : (names xs : List (List ℕ)) → AreAmong xs names → list_all (λ y. nat_lt y (length names)) (map (number_among names) xs) ≡ true
known_all names [] a = refl
known_all names (x ∷ xs) a = rw (lt-ltb (number_among names x) (length names) (slice_get_within names (number_among names x) x (number_at x names a.0))) (known_all names xs a.1)

-- each of the names is among those that stand once
once_by : (x n : List ℕ) (ns seen : List (List ℕ)) (there same : Bool) → list_any (bytes_eq n) seen
    ≡ there → bytes_eq x n ≡ same → ((seen : List (List ℕ)) →
    (list_any (bytes_eq x) ns || list_any (bytes_eq x) seen) ≡ true →
    (list_any (bytes_eq x) (each_once seen ns) || list_any (bytes_eq x) seen) ≡ true) →
    ((same || list_any (bytes_eq x) ns) || list_any (bytes_eq x) seen) ≡ true →
    (list_any (bytes_eq x) (cond there (each_once seen ns) (n ∷ each_once (n ∷ seen) ns)) ||
    list_any (bytes_eq x) seen) ≡ true
once_by x n ns seen true true is at below e =
    let equal : x ≡ n = (bytes_eq-Decides x n).0 at in
    let found : list_any (bytes_eq x) seen ≡ true = ap (λ m. list_any (bytes_eq m) seen) equal ∙ is in
    or_right (list_any (bytes_eq x) (each_once seen ns)) (list_any (bytes_eq x) seen) found
once_by x n ns seen true false is at below e = below seen e
once_by x n ns seen false true is at below e = rw at refl
once_by x n ns seen false false is at below e =
    let later : (list_any (bytes_eq x) (each_once (n ∷ seen) ns) || (bytes_eq x n || list_any (bytes_eq x) seen)) ≡ true = below (n ∷ seen) (rw at e) in
    rw at (rw at at later)

among_once : (x : List ℕ) (ns seen : List (List ℕ)) → (list_any (bytes_eq x) ns || list_any (bytes_eq x) seen) ≡ true → (list_any (bytes_eq x) (each_once seen ns) || list_any (bytes_eq x) seen) ≡ true
among_once x [] seen e = e
among_once x (n ∷ ns) seen e = once_by x n ns seen (list_any (bytes_eq n) seen) (bytes_eq x n) refl refl (among_once x ns) e

pub once_has : (x : List ℕ) (all : List (List ℕ)) → list_any (bytes_eq x) all ≡ true → list_any (bytes_eq x) (each_once [] all) ≡ true
once_has x all e = sym (or-false (list_any (bytes_eq x) (each_once [] all))) ∙ among_once x all [] (or-false (list_any (bytes_eq x) all) ∙ e)

pub among_by : (xs ys names : List (List ℕ)) → ((x : List ℕ) → list_any (bytes_eq x) ys ≡ true →
    list_any (bytes_eq x) names ≡ true) → ((x : List ℕ) → list_any (bytes_eq x) xs ≡ true →
    list_any (bytes_eq x) ys ≡ true) → AreAmong xs names
among_by [] ys names have within = tt
among_by (x ∷ xs) ys names have within = (
  have x (within x (rw ((bytes_eq-Decides x x).1 refl) refl)),
  among_by xs ys names have
      (λ z e. within z (or_right (bytes_eq z x) (list_any (bytes_eq z) xs) e)),
)

pub among-left : (xs ys names : List (List ℕ)) → AreAmong (xs ++ ys) names → AreAmong xs names
among-left [] ys names a = tt
among-left (x ∷ xs) ys names a = (a.0, among-left xs ys names a.1)

pub among-right : (xs ys names : List (List ℕ)) → AreAmong (xs ++ ys) names → AreAmong ys names
among-right [] ys names a = a
among-right (x ∷ xs) ys names a = among-right xs ys names a.1

-- names that differ have numbers that differ
same_number : (names : List (List ℕ)) (x z : List ℕ) → list_any (bytes_eq x) names ≡ true → list_any (bytes_eq z) names ≡ true → number_among names x ≡ number_among names z → x ≡ z
same_number names x z a b e = same_some x z (sym (number_at x names a) ∙ ap (slice_get names) e ∙ number_at z names b)

back_by : (names : List (List ℕ)) (x z : List ℕ) (zs : List (List ℕ)) (same : Bool) →
    nat_eq (number_among names x) (number_among names z) ≡ same → list_any (bytes_eq x) names
    ≡ true → list_any (bytes_eq z) names ≡ true →
    (list_any (nat_eq (number_among names x)) (map (number_among names) zs) ≡ true →
    list_any (bytes_eq x) zs ≡ true) →
    (same || list_any (nat_eq (number_among names x)) (map (number_among names) zs)) ≡ true → (bytes_eq x z || list_any (bytes_eq x) zs) ≡ true
back_by names x z zs true is a b below e = rw ((bytes_eq-Decides x z).1 (same_number names x z a b ((Decides-eqb (number_among names x) (number_among names z)).0 is))) refl
back_by names x z zs false is a b below e = or_right (bytes_eq x z) (list_any (bytes_eq x) zs) (below e)

back : (names : List (List ℕ)) (x : List ℕ) (zs : List (List ℕ)) → list_any (bytes_eq x) names
    ≡ true → AreAmong zs names → list_any (nat_eq (number_among names x))
    (map (number_among names) zs) ≡ true → list_any (bytes_eq x) zs ≡ true
back names x [] a b e = e
back names x (z ∷ zs) a b e = back_by names x z zs (nat_eq (number_among names x) (number_among names z)) refl a b.0 (back names x zs a b.1) e

none_back : (p q : Bool) → (p ≡ true → q ≡ true) → not q ≡ true → not p ≡ true
none_back true true f e = e
none_back true false f e = let both = f refl in cc
none_back false q f e = refl

pub distinct_numbered : (names xs : List (List ℕ)) → AreAmong xs names → are_distinct xs ≡ true → are_distinct_numbers (map (number_among names) xs) ≡ true
distinct_numbered names [] a d = refl
distinct_numbered names (x ∷ xs) a d =
    let two = and_parts (not (list_any (bytes_eq x) xs)) (are_distinct xs) d in
    rw (none_back _ _ (back names x xs a.0 a.1) two.0, distinct_numbered names xs a.1 two.1) refl

-- a name that is mentioned is so by its number
any_number_by : (names : List (List ℕ)) (x n : List ℕ) (ns : List (List ℕ)) (y : ℕ) (same : Bool) →
    number_among names x ≡ y → bytes_eq x n ≡ same → (same || list_any (bytes_eq x) ns) ≡ true →
    (list_any (bytes_eq x) ns ≡ true → list_any (nat_eq y) (map (number_among names) ns) ≡ true) →
    (nat_eq y (number_among names n) || list_any (nat_eq y) (map (number_among names) ns)) ≡ true
any_number_by names x n ns y true is at e below = let equal : x ≡ n = (bytes_eq-Decides x n).0 at in
    let number : y ≡ number_among names n = sym is ∙ ap (number_among names) equal in
    rw ((Decides-eqb y (number_among names n)).1 number) refl
any_number_by names x n ns y false is at e below = or_right (nat_eq y (number_among names n)) (list_any (nat_eq y) (map (number_among names) ns)) (below e)

pub any_number : (names : List (List ℕ)) (x : List ℕ) (ns : List (List ℕ)) (y : ℕ) →
    number_among names x ≡ y → list_any (bytes_eq x) ns ≡ true →
    list_any (nat_eq y) (map (number_among names) ns) ≡ true
any_number names x [] y is e = e
any_number names x (n ∷ ns) y is e = any_number_by names x n ns y (bytes_eq x n) is refl e (any_number names x ns y is)
