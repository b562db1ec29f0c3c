-- Each name at its first place alone.
use Rattle.std.proofs.Common.{◌≡◌, ℕ, zero, suc, ◌≤◌, List, [], ◌∷◌, ◌++◌, length, not, ◌&&◌, ◌||◌, Bool, true, false, cond, Some, refl, sym, ap, ◌∙◌, append_assoc, append-nil, arith}
use Rattle.std.proofs.Math.Bool.{or-false}
use Rattle.std.proofs.lemmas.List.Folds.{list_any-append}
use Rattle.std.proofs.lemmas.Slice.Eq.{bytes_eq-Decides}
use Rattle.std.specs.List.{list_all, list_any, slice_get}
use Rattle.std.proofs.lemmas.Bool.{and_parts}
use Rattle.std.specs.Str.{bytes_eq}
use Rattle.pv_dtd.specs.Facts.{are_distinct}
use Rattle.pv_dtd.specs.Numbering.{each_once}
use Rattle.pv_dtd.specs.NameOrder.{names_with, with_names}
use Rattle.pv_chars.proofs.ReaderSteps.{same_some}
use Rattle.pv_dtd.proofs.Places.{is_some-place}
use Rattle.pv_dtd.proofs.DistinctLists.{are_new, new-distinct}
use Rattle.pv_dtd.proofs.NameSequences.{with_names-append}

-- each name is in both lists or in neither
abbrev pub HaveSame : List (List ℕ) → List (List ℕ) → Type 0
HaveSame a b = (x : List ℕ) → list_any (bytes_eq x) a ≡ list_any (bytes_eq x) b

swap_or : (a b : Bool) → (a || b) ≡ (b || a)
swap_or true true = refl
swap_or true false = refl
swap_or false true = refl
swap_or false false = refl

same_with : (names seen : List (List ℕ)) (n : List ℕ) → HaveSame names seen → HaveSame (names ++ n ∷ []) (n ∷ seen)
same_with names seen n same x =
    list_any-append (bytes_eq x) names (n ∷ []) ∙ ap (λ b. list_any (bytes_eq x) names || b)
    (or-false (bytes_eq x n)) ∙ swap_or (list_any (bytes_eq x) names) (bytes_eq x n)
    ∙ ap (λ b. bytes_eq x n || b) (same x)

with_name_if : (names : List (List ℕ)) (x : List ℕ) (there : Bool) → list_any (bytes_eq x) names ≡ there → names_with names x ≡ cond there names (names ++ x ∷ [])
with_name_if names x there is = ap (λ b. cond b names (names ++ x ∷ [])) (is_some-place x names ∙ is)

grown_once_by : (names seen : List (List ℕ)) → HaveSame names seen →
    (x : List ℕ) (xs : List (List ℕ)) (there : Bool) → list_any (bytes_eq x) seen ≡ there →
    ((names seen : List (List ℕ)) → HaveSame names seen → with_names names xs ≡ names ++ each_once seen xs) →
    with_names (names_with names x) xs ≡ names ++ cond there (each_once seen xs) (x ∷ each_once (x ∷ seen) xs)
grown_once_by names seen same x xs true is below = ap (λ ns. with_names ns xs) (with_name_if names x true (same x ∙ is)) ∙ below names seen same
grown_once_by names seen same x xs false is below =
    ap (λ ns. with_names ns xs) (with_name_if names x false (same x ∙ is)) ∙ below (names ++ x ∷ []) (x ∷ seen) (same_with names seen x same) ∙ append_assoc names (x ∷ []) (each_once (x ∷ seen) xs)

pub with_names-once : (xs names seen : List (List ℕ)) → HaveSame names seen → with_names names xs ≡ names ++ each_once seen xs
with_names-once [] names seen same = sym (append-nil names)
with_names-once (x ∷ xs) names seen same = grown_once_by names seen same x xs (list_any (bytes_eq x) seen) refl (with_names-once xs)

new_once_by : (names seen : List (List ℕ)) → HaveSame names seen → (x : List ℕ) (xs : List (List ℕ))
    (there : Bool) → list_any (bytes_eq x) seen ≡ there → ((names seen : List (List ℕ)) →
    HaveSame names seen → are_new bytes_eq names (each_once seen xs) ≡ true) →
    are_new bytes_eq names (cond there (each_once seen xs) (x ∷ each_once (x ∷ seen) xs)) ≡ true
new_once_by names seen same x xs true is below = below names seen same
new_once_by names seen same x xs false is below = rw (same x, is) (below (names ++ x ∷ []) (x ∷ seen) (same_with names seen x same))

pub new-once : (xs names seen : List (List ℕ)) → HaveSame names seen → are_new bytes_eq names (each_once seen xs) ≡ true
new-once [] names seen same = refl
new-once (x ∷ xs) names seen same = new_once_by names seen same x xs (list_any (bytes_eq x) seen) refl (new-once xs)

pub distinct-once : (xs : List (List ℕ)) → are_distinct (each_once [] xs) ≡ true
distinct-once xs = sym (new-distinct (each_once [] xs)) ∙ new-once xs [] [] (λ x. refl)

-- names that are new all go at the end
grown_new_by : (names : List (List ℕ)) (x : List ℕ) (xs : List (List ℕ)) (there : Bool) →
    list_any (bytes_eq x) names ≡ there → (not there && are_new bytes_eq (names ++ x ∷ []) xs)
    ≡ true → (are_new bytes_eq (names ++ x ∷ []) xs ≡ true → with_names (names ++ x ∷ []) xs
    ≡ (names ++ x ∷ []) ++ xs) → with_names (names_with names x) xs ≡ names ++ x ∷ xs
grown_new_by names x xs true is new below = cc
grown_new_by names x xs false is new below = ap (λ ns. with_names ns xs) (with_name_if names x false is) ∙ below new ∙ append_assoc names (x ∷ []) xs

with_names-new : (names xs : List (List ℕ)) → are_new bytes_eq names xs ≡ true → with_names names xs ≡ names ++ xs
with_names-new names [] new = sym (append-nil names)
with_names-new names (x ∷ xs) new = grown_new_by names x xs (list_any (bytes_eq x) names) refl new (with_names-new (names ++ x ∷ []) xs)

-- names that differ, and then others, each once
pub once-distinct : (declared mentioned : List (List ℕ)) → are_distinct declared ≡ true → each_once [] (declared ++ mentioned) ≡ with_names declared mentioned
once-distinct declared mentioned distinct =
    sym (with_names-once (declared ++ mentioned) [] [] (λ x. refl))
    ∙ with_names-append [] declared mentioned ∙ ap (λ ns. with_names ns mentioned)
    (with_names-new [] declared (new-distinct declared ∙ distinct))

-- what holds of all holds of each once
once_all_by : (p : List ℕ → Bool) (x : List ℕ) (seen : List (List ℕ)) (xs : List (List ℕ))
    (there holds : Bool) → p x ≡ holds → (holds && list_all p xs) ≡ true → ((seen : List (List ℕ)) →
    list_all p xs ≡ true → list_all p (each_once seen xs) ≡ true) →
    list_all p (cond there (each_once seen xs) (x ∷ each_once (x ∷ seen) xs)) ≡ true
once_all_by p x seen xs there false is all below = cc
once_all_by p x seen xs true true is all below = below seen all
once_all_by p x seen xs false true is all below = rw is (below (x ∷ seen) all)

pub once_all : (p : List ℕ → Bool) (xs seen : List (List ℕ)) → list_all p xs ≡ true → list_all p (each_once seen xs) ≡ true
once_all p [] seen all = refl
once_all p (x ∷ xs) seen all = once_all_by p x seen xs (list_any (bytes_eq x) seen) (p x) refl all (once_all p xs)

-- and what holds of each once holds of all
one_passes : (p : List ℕ → Bool) (x : List ℕ) (seen : List (List ℕ)) → list_all p seen ≡ true → list_any (bytes_eq x) seen ≡ true → p x ≡ true
one_passes p x [] all there = cc
one_passes p x (n ∷ ns) all there = let two = and_parts (p n) (list_all p ns) all in by (bytes_eq x n) refl there two.0 (one_passes p x ns two.1)
  where
    by : (same : Bool) → bytes_eq x n ≡ same → (same || list_any (bytes_eq x) ns) ≡ true → p n ≡ true → (list_any (bytes_eq x) ns ≡ true → p x ≡ true) → p x ≡ true
    by true is e first others = ap p ((bytes_eq-Decides x n).0 is) ∙ first
    by false is e first others = others e

all_once_by : (p : List ℕ → Bool) (x : List ℕ) (seen xs : List (List ℕ)) (there : Bool) →
    list_any (bytes_eq x) seen ≡ there → list_all p seen ≡ true →
    list_all p (cond there (each_once seen xs) (x ∷ each_once (x ∷ seen) xs)) ≡ true →
    ((seen : List (List ℕ)) → list_all p seen ≡ true → list_all p (each_once seen xs) ≡ true → list_all p xs ≡ true) → (p x && list_all p xs) ≡ true
all_once_by p x seen xs true is before all below = rw (one_passes p x seen before is) (below seen before all)
all_once_by p x seen xs false is before all below =
    let two = and_parts (p x) (list_all p (each_once (x ∷ seen) xs)) all in
    let seen_too : list_all p (x ∷ seen) ≡ true = rw (two.0, before) refl in
    rw two.0 (below (x ∷ seen) seen_too two.1)

pub all_once : (p : List ℕ → Bool) (xs seen : List (List ℕ)) → list_all p seen ≡ true → list_all p (each_once seen xs) ≡ true → list_all p xs ≡ true
all_once p [] seen before all = refl
all_once p (x ∷ xs) seen before all = all_once_by p x seen xs (list_any (bytes_eq x) seen) refl before all (λ s b e. all_once p xs s b e)

-- each of them is one of the names
one_of_by : (n x : List ℕ) (ns seen : List (List ℕ)) (k : ℕ) (there : Bool) →
    ((seen : List (List ℕ)) (j : ℕ) → slice_get (each_once seen ns) j ≡ Some x →
    list_any (bytes_eq x) ns ≡ true) →
    slice_get (cond there (each_once seen ns) (n ∷ each_once (n ∷ seen) ns)) k ≡ Some x →
    (bytes_eq x n || list_any (bytes_eq x) ns) ≡ true
one_of_by n x ns seen k true below e = rw (below seen k e) (or_true (bytes_eq x n))
  where
    or_true : (b : Bool) → (b || true) ≡ true
    or_true true = refl
    or_true false = refl
one_of_by n x ns seen zero false below e = rw ((bytes_eq-Decides x n).1 (sym (same_some _ _ e))) refl
one_of_by n x ns seen (suc k) false below e = rw (below (n ∷ seen) k e) (or_true (bytes_eq x n))
  where
    or_true : (b : Bool) → (b || true) ≡ true
    or_true true = refl
    or_true false = refl

pub once_one_of : (x : List ℕ) (ns seen : List (List ℕ)) (k : ℕ) → slice_get (each_once seen ns) k ≡ Some x → list_any (bytes_eq x) ns ≡ true
once_one_of x [] seen k e = cc
once_one_of x (n ∷ ns) seen k e = one_of_by n x ns seen k (list_any (bytes_eq n) seen) (once_one_of x ns) e

-- they are no more than the names
fewer_by : (n : List ℕ) (ns seen : List (List ℕ)) (there : Bool) → ((seen : List (List ℕ)) →
    length (each_once seen ns) ≤ length ns) →
    length (cond there (each_once seen ns) (n ∷ each_once (n ∷ seen) ns)) ≤ suc (length ns)
fewer_by n ns seen true below = omega (arith, below seen)
fewer_by n ns seen false below = omega (arith, below (n ∷ seen))

pub once_fewer : (ns seen : List (List ℕ)) → length (each_once seen ns) ≤ length ns
once_fewer [] seen = omega arith
once_fewer (n ∷ ns) seen = fewer_by n ns seen (list_any (bytes_eq n) seen) (once_fewer ns)
