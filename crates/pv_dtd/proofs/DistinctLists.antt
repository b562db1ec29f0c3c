-- Lists whose elements differ, tested from the left.
use Rattle.std.proofs.Common.{◌≡◌, Bool, true, false, not, ◌&&◌, ◌||◌, List, [], ◌∷◌, ◌++◌, ℕ, refl, sym, ap, ◌∙◌}
use Rattle.std.proofs.Math.Bool.{or-false}
use Rattle.std.proofs.lemmas.List.Folds.{list_any-append}
use Rattle.std.proofs.lemmas.Bool.Decides.{same_from_decides, Decides-like}
use Rattle.std.proofs.lemmas.Slice.Eq.{bytes_eq-Decides}
use Rattle.std.specs.List.{list_all, list_any}
use Rattle.std.specs.Str.{bytes_eq}
use Rattle.pv_dtd.specs.Facts.{are_distinct}

first_out : (a b c d : Bool) → (a && ((b && c) && d)) ≡ ((a && b) && (c && d))
first_out true true c d = refl
first_out true false c d = refl
first_out false b c d = refl

neither : (p q r a : Bool) → (not (p || q) && (a && not r)) ≡ ((not p && a) && not (q || r))
neither true q r a = refl
neither false true r true = refl
neither false true r false = refl
neither false false r a = refl

module _ {A : Type 0} (eq : A → A → Bool) where
  abbrev pub differ : List A → Bool
  differ [] = true
  differ (x ∷ xs) = not (list_any (eq x) xs) && differ xs

  -- each is new after these and those before it
  abbrev pub are_new : List A → List A → Bool
  are_new seen [] = true
  are_new seen (x ∷ xs) = not (list_any (eq x) seen) && are_new (seen ++ x ∷ []) xs

  -- none of them is one of these
  abbrev pub are_apart : List A → List A → Bool
  are_apart seen xs = list_all (λ x. not (list_any (eq x) seen)) xs

  any-push : (x : A) (seen : List A) (y : A) → list_any (eq x) (seen ++ y ∷ []) ≡ (list_any (eq x) seen || eq x y)
  any-push x seen y = list_any-append (eq x) seen (y ∷ []) ∙ ap (λ b. list_any (eq x) seen || b) (or-false (eq x y))

  module _ (same : (x y : A) → eq x y ≡ eq y x) where
    apart-push : (seen : List A) (x : A) (xs : List A) → are_apart (seen ++ x ∷ []) xs ≡ (are_apart seen xs && not (list_any (eq x) xs))
    apart-push seen x [] = refl
    apart-push seen x (z ∷ zs) =
        rw (any-push z seen x, same z x, apart-push seen x zs) (neither (list_any (eq z) seen) (eq x z) (list_any (eq x) zs) (are_apart seen zs))

    new-apart : (seen xs : List A) → are_new seen xs ≡ (are_apart seen xs && differ xs)
    new-apart seen [] = refl
    new-apart seen (x ∷ xs) = rw (new-apart (seen ++ x ∷ []) xs, apart-push seen x xs) (first_out (not (list_any (eq x) seen)) (are_apart seen xs) (not (list_any (eq x) xs)) (differ xs))

  apart_none : (xs : List A) → are_apart [] xs ≡ true
  apart_none [] = refl
  apart_none (x ∷ xs) = apart_none xs

  pub new-differ : ((x y : A) → eq x y ≡ eq y x) → (xs : List A) → are_new [] xs ≡ differ xs
  new-differ same xs = new-apart same [] xs ∙ ap (λ b. b && differ xs) (apart_none xs)

pub bytes_eq-swap : (x y : List ℕ) → bytes_eq x y ≡ bytes_eq y x
bytes_eq-swap x y = same_from_decides (bytes_eq x y) (bytes_eq y x) (bytes_eq-Decides x y) (Decides-like (bytes_eq y x) sym sym (bytes_eq-Decides y x))

pub new-distinct : (names : List (List ℕ)) → are_new bytes_eq [] names ≡ are_distinct names
new-distinct names = new-differ bytes_eq bytes_eq-swap names
