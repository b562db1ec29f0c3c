-- Lists that are taken from at the end.
use Rattle.std.proofs.Common.{List, None, Option, Some, [], ap, arith, length, refl, suc, sym, take, ℕ, ◌+◌, ◌++◌, ◌-◌, ◌∙◌, ◌∷◌, ◌≡◌, slice_get}
use Rattle.std.proofs.lemmas.List.{same_from_push}
use Rattle.std.specs.Option.{MatchOption, option_to_list}

pub last_none : {A : Type 0} (xs : List A) → slice_get xs (length xs - 1) ≡ None → xs ≡ []
last_none [] e = refl
last_none (x ∷ xs) e = absurd (last_some x xs e)
  where
    last_some : {A : Type 0} (x : A) (xs : List A) → slice_get (x ∷ xs) (length (x ∷ xs) - 1) ≡ None → ⊥
    last_some x [] e = absurd cc
    last_some x (y ∷ xs) e =
        let n : suc (length (y ∷ xs)) - 1 ≡ suc (length (y ∷ xs) - 1) = omega arith in
        last_some y xs (rw n at e)

pub record HasLast {A : Type 0} (xs : List A) (x : A) : Type 0 where
  pub front : List A
  pub whole : xs ≡ front ++ x ∷ []

pub has_last : {A : Type 0} (x : A) (xs : List A) → slice_get xs (length xs - 1) ≡ Some x → HasLast xs x
has_last x [] e = absurd cc
has_last x (y ∷ []) e = record { front = []; whole = let f : y ≡ x = cc in rw f refl }
has_last x (y ∷ z ∷ xs) e =
    let n : suc (length (z ∷ xs)) - 1 ≡ suc (length (z ∷ xs) - 1) = omega arith in
    let r = has_last x (z ∷ xs) (rw n at e) in
    record { front = y ∷ r.front; whole = ap (λ l. y ∷ l) r.whole }

-- what `pop` says where there was nothing
pub popped_none : {A : Type 0} (old new : List A) (n : ℕ) → old ≡ new ++ [] → new ≡ take (n - 1) old → n ≡ 0 → old ≡ []
popped_none old new n e r z =
    let f : new ≡ take (0 - 1) old = rw z at r in
    let g : new ≡ [] = f in
    e ∙ ap (λ l. l ++ []) g

nothing_last : {A : Type 0} (front : List A) (x : A) → front ++ x ∷ [] ≡ [] → ⊥
nothing_last [] x e = absurd cc
nothing_last (y ∷ front) x e = absurd cc

-- what it leaves of a list with a last element
pub popped : {A : Type 0} (xs front new : List A) (x : A) (o : Option A) (n m : ℕ) →
    xs ≡ front ++ x ∷ [] → xs ≡ new ++ option_to_list o → new ≡ take (n - 1) xs →
    MatchOption o ((n ≡ 0) × (m ≡ 0)) (λ _. m + 1 ≡ n) → new ≡ front
popped xs front new x None n m e f r h = absurd (nothing_last front x (sym e ∙ popped_none xs new n f r h.0))
popped xs front new x (Some y) n m e f r h = sym (same_from_push front new x y (sym e ∙ f)).0

pub not_none : {A : Type 0} (xs front : List A) (x : A) → xs ≡ front ++ x ∷ [] → xs ≡ [] → ⊥
not_none xs front x e f = nothing_last front x (sym e ∙ f)

-- a list that isn't empty has a last element
pub record HasSome {A : Type 0} (xs : List A) : Type 0 where
  pub item : A
  pub last : HasLast xs item

pub has_some : {A : Type 0} (xs : List A) → (xs ≡ [] → ⊥) → HasSome xs
has_some [] n = absurd (n refl)
has_some (x ∷ []) n = record { item = x; last = record { front = []; whole = refl } }
has_some (x ∷ y ∷ xs) n =
    let r = has_some (y ∷ xs) (λ e. cc) in
    record { item = r.item; last = record { front = x ∷ r.last.front; whole = ap (λ l. x ∷ l) r.last.whole } }

-- what `last` gives of a slice of them
pub none_of : {A : Type 0} (xs slice : List A) (o : Option A) → slice ≡ xs → o ≡ slice_get slice (length slice - 1) → o ≡ None → xs ≡ []
none_of xs slice o e f n = last_none xs (ap (λ l. slice_get l (length l - 1)) (sym e) ∙ sym f ∙ n)

pub last_of : {A : Type 0} (xs slice : List A) (x : A) → slice ≡ xs → Some x ≡ slice_get slice (length slice - 1) → HasLast xs x
last_of xs slice x e f = has_last x xs (ap (λ l. slice_get l (length l - 1)) (sym e) ∙ sym f)
