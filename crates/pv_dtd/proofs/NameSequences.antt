-- Names that grow, one after the other.
use Rattle.std.proofs.Common.{◌≡◌, ℕ, zero, suc, List, [], ◌∷◌, ◌++◌, length, map, Bool, true, false, cond, is_some, Option, Some, None, refl, sym, ap, ◌∙◌, append_assoc, append-nil}
use Rattle.std.proofs.lemmas.Slice.Eq.{bytes_eq-Decides}
use Rattle.std.specs.List.{slice_get}
use Rattle.std.specs.Option.{option_map}
use Rattle.std.specs.Str.{bytes_eq}
use Rattle.pv_dtd.specs.Plain.{place_of}
use Rattle.pv_dtd.specs.NameOrder.{names_with, number_in, AreFirstIn, with_names}

pub goes_on_self : (names : List (List ℕ)) → AreFirstIn names names
goes_on_self names = record { added = []; whole = sym (append-nil names) }

pub goes_on_then : (a b c : List (List ℕ)) → AreFirstIn a b → AreFirstIn b c → AreFirstIn a c
goes_on_then a b c p q = record { added = p.added ++ q.added; whole = q.whole ∙ ap (λ x. x ++ q.added) p.whole ∙ append_assoc a p.added q.added }

with_name_goes_on_by : (names : List (List ℕ)) (x : List ℕ) (there : Bool) → AreFirstIn names (cond there names (names ++ x ∷ []))
with_name_goes_on_by names x true = goes_on_self names
with_name_goes_on_by names x false = record { added = x ∷ []; whole = refl }

pub with_name_goes_on : (names : List (List ℕ)) (x : List ℕ) → AreFirstIn names (names_with names x)
with_name_goes_on names x = with_name_goes_on_by names x (is_some (place_of names x))

pub grown_goes_on : (names xs : List (List ℕ)) → AreFirstIn names (with_names names xs)
grown_goes_on names [] = goes_on_self names
grown_goes_on names (x ∷ xs) = goes_on_then names (names_with names x) _ (with_name_goes_on names x) (grown_goes_on (names_with names x) xs)

pub with_names-append : (names xs ys : List (List ℕ)) → with_names names (xs ++ ys) ≡ with_names (with_names names xs) ys
with_names-append names [] ys = refl
with_names-append names (x ∷ xs) ys = with_names-append (names_with names x) xs ys

-- these numbers have these names
abbrev pub AreNamed : List (List ℕ) → List ℕ → List (List ℕ) → Type 0
AreNamed names ys xs = map (slice_get names) ys ≡ map Some xs

-- a name's place has that name
place_at : (n : List ℕ) (ns : List (List ℕ)) (x : List ℕ) (y : ℕ) (same : Bool) →
    bytes_eq x n ≡ same → ((z : ℕ) → place_of ns x ≡ Some z → slice_get ns z ≡ Some x) →
    (o : Option ℕ) → place_of ns x ≡ o → cond same (Some 0) (option_map suc o) ≡ Some y →
    slice_get (n ∷ ns) y ≡ Some x
place_at n ns x zero true is below o at e = let there = (bytes_eq-Decides x n).0 is in cc
place_at n ns x (suc y) true is below o at e = cc
place_at n ns x y false is below None at e = cc
place_at n ns x zero false is below (Some z) at e = cc
place_at n ns x (suc y) false is below (Some z) at e = let same : z ≡ y = cc in below y (at ∙ ap Some same)

pub get-place : (names : List (List ℕ)) (x : List ℕ) (y : ℕ) → place_of names x ≡ Some y → slice_get names y ≡ Some x
get-place [] x y e = cc
get-place (n ∷ ns) x y e = place_at n ns x y (bytes_eq x n) refl (get-place ns x) (place_of ns x) refl e

-- a name's place stays
place_front : (n : List ℕ) (ns added : List (List ℕ)) (x : List ℕ) (y : ℕ) (same : Bool) →
    ((z : ℕ) → place_of ns x ≡ Some z → place_of (ns ++ added) x ≡ Some z) → (o : Option ℕ) →
    place_of ns x ≡ o → cond same (Some 0) (option_map suc o) ≡ Some y →
    cond same (Some 0) (option_map suc (place_of (ns ++ added) x)) ≡ Some y
place_front n ns added x y true below o at e = e
place_front n ns added x y false below None at e = cc
place_front n ns added x y false below (Some z) at e = rw (below z at) e

place-front : (names added : List (List ℕ)) (x : List ℕ) (y : ℕ) → place_of names x ≡ Some y → place_of (names ++ added) x ≡ Some y
place-front [] added x y e = cc
place-front (n ∷ ns) added x y e = place_front n ns added x y (bytes_eq x n) (place-front ns added x) (place_of ns x) refl e

pub place_goes_on : (names more : List (List ℕ)) → AreFirstIn names more → (x : List ℕ) (y : ℕ) → place_of names x ≡ Some y → place_of more x ≡ Some y
place_goes_on names more g x y e = rw g.whole (place-front names g.added x y e)

-- a name that is new has the next place
place_end_by : (n : List ℕ) (ns : List (List ℕ)) (x : List ℕ) (same : Bool) →
    (place_of ns x ≡ None → place_of (ns ++ x ∷ []) x ≡ Some (length ns)) → (o : Option ℕ) →
    place_of ns x ≡ o → cond same (Some 0) (option_map suc o) ≡ None →
    cond same (Some 0) (option_map suc (place_of (ns ++ x ∷ []) x)) ≡ Some (suc (length ns))
place_end_by n ns x true below o at e = cc
place_end_by n ns x false below None at e = rw (below at) refl
place_end_by n ns x false below (Some z) at e = cc

place_end : (names : List (List ℕ)) (x : List ℕ) → place_of names x ≡ None → place_of (names ++ x ∷ []) x ≡ Some (length names)
place_end [] x e = rw ((bytes_eq-Decides x x).1 refl) refl
place_end (n ∷ ns) x e = place_end_by n ns x (bytes_eq x n) (place_end ns x) (place_of ns x) refl e

place_with_by : (names : List (List ℕ)) (x : List ℕ) (o : Option ℕ) → place_of names x ≡ o → place_of (names_with names x) x ≡ Some (number_in names x)
place_with_by names x None e = rw e (place_end names x e)
place_with_by names x (Some y) e = rw e e

pub place-names_with : (names : List (List ℕ)) (x : List ℕ) → place_of (names_with names x) x ≡ Some (number_in names x)
place-names_with names x = place_with_by names x (place_of names x) refl
