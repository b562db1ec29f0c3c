-- What holds of each element of joined lists, and the elements of a list after its first.
use Rattle.std.proofs.Common.{◌≡◌, ◌⊎◌, inl, inr, zero, suc, List, [], ◌∷◌, ◌++◌, refl, arith}
use Rattle.std.specs.List.{AllByRecursion, Contains}

pub all_left : {A : Type 0} (P : A → Type 0) (xs ys : List A) → AllByRecursion P (xs ++ ys) → AllByRecursion P xs
all_left P [] ys h = tt
all_left P (x ∷ xs) ys h = (h.0, all_left P xs ys h.1)

pub all_right : {A : Type 0} (P : A → Type 0) (xs ys : List A) → AllByRecursion P (xs ++ ys) → AllByRecursion P ys
all_right P [] ys h = h
all_right P (x ∷ xs) ys h = all_right P xs ys h.1

pub all_joined : {A : Type 0} (P : A → Type 0) (xs ys : List A) → AllByRecursion P xs → AllByRecursion P ys → AllByRecursion P (xs ++ ys)
all_joined P [] ys h k = k
all_joined P (x ∷ xs) ys h k = (h.0, all_joined P xs ys h.1 k)

pub contains_cases : {A : Type 0} (x : A) (xs : List A) (y : A) → Contains (x ∷ xs) y → (x ≡ y) ⊎ Contains xs y
contains_cases x xs y (zero, lt, h) = inl h
contains_cases x xs y (suc k, lt, h) = inr (k, omega arith, h)

pub contains_first : {A : Type 0} (x : A) (xs : List A) → Contains (x ∷ xs) x
contains_first x xs = (0, omega arith, refl)

pub contains_later : {A : Type 0} (x : A) (xs : List A) (y : A) → Contains xs y → Contains (x ∷ xs) y
contains_later x xs y (k, lt, h) = (suc k, omega arith, h)
