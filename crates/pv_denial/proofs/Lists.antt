-- Items of lists by their places, and lists that ascend.
use Rattle.std.proofs.Common.{List, Some, [], arith, inl, inr, length, refl, slice_get, subst, suc, sym, zero, ℕ, ◌++◌, ◌<◌, ◌∷◌, ◌≡◌, ◌≤◌, ◌⊎◌}
use Rattle.std.proofs.lemmas.Bool.{cases_lt}
use Rattle.std.specs.List.{AllByRecursion, Contains}
use Rattle.pv_tree.proofs.JoinedLists.{contains_cases}

pub lt_or_eq : (k n : ℕ) → k < suc n → (k < n) ⊎ (k ≡ n)
lt_or_eq k n lt = case (cases_lt k n)
  where
    case : (k < n) ⊎ (n ≤ k) → (k < n) ⊎ (k ≡ n)
    case (inl l) = inl l
    case (inr ge) = inr (omega arith)

pub every : {A : Type 0} (P : A → Type 0) (xs : List A) (x : A) → AllByRecursion P xs → Contains xs x → P x
every P [] x all (k, lt, e) = absurd (omega arith)
every P (y ∷ ys) x all has = case (contains_cases y ys x has) (every P ys x all.1)
  where
    case : (y ≡ x) ⊎ Contains ys x → (Contains ys x → P x) → P x
    case (inl e) on = subst P e all.0
    case (inr h) on = on h

-- one item more at the end
pub at_front : {A : Type 0} (xs ys : List A) (k : ℕ) (x : A) → slice_get xs k ≡ Some x → slice_get (xs ++ ys) k ≡ Some x
at_front [] ys k x e = absurd cc
at_front (z ∷ zs) ys zero x e = e
at_front (z ∷ zs) ys (suc k) x e = at_front zs ys k x e

pub at_end : {A : Type 0} (xs : List A) (x : A) → slice_get (xs ++ x ∷ []) (length xs) ≡ Some x
at_end [] x = refl
at_end (z ∷ zs) x = at_end zs x

pub front_or_end : {A : Type 0} (xs : List A) (x : A) (k : ℕ) (y : A) → slice_get (xs ++ x ∷ []) k ≡ Some y → (slice_get xs k ≡ Some y) ⊎ ((k ≡ length xs) × (x ≡ y))
front_or_end [] x zero y e = inr (refl, cc)
front_or_end [] x (suc k) y e = absurd cc
front_or_end (z ∷ zs) x zero y e = inl e
front_or_end (z ∷ zs) x (suc k) y e = case (front_or_end zs x k y e)
  where
    case : (slice_get zs k ≡ Some y) ⊎ ((k ≡ length zs) × (x ≡ y)) → (slice_get zs k ≡ Some y) ⊎ ((suc k ≡ suc (length zs)) × (x ≡ y))
    case (inl h) = inl h
    case (inr (n, same)) = inr (omega arith, same)

-- lists are one where they have the same items at the same places
pub same_list : {A : Type 0} (xs ys : List A) → length xs ≡ length ys → ((k : ℕ) (x y : A) → slice_get xs k ≡ Some x → slice_get ys k ≡ Some y → x ≡ y) → xs ≡ ys
same_list [] [] e same = refl
same_list [] (y ∷ ys) e same = absurd (omega arith)
same_list (x ∷ xs) [] e same = absurd (omega arith)
same_list (x ∷ xs) (y ∷ ys) e same =
    let first = same 0 x y refl refl in
    let others = same_list xs ys (omega arith) (λ k. same (suc k)) in
    λ i. first i ∷ others i

module _ {A : Type 0} (R : A → A → Type 0) (never : (a b : A) → R a b → R b a → ⊥) where
  abbrev pub Ascend : List A → Type 0
  Ascend xs = (j k : ℕ) (a b : A) → j < k → slice_get xs j ≡ Some a → slice_get xs k ≡ Some b → R a b

  abbrev pub AreAmong : List A → List A → Type 0
  AreAmong xs ys = (k : ℕ) (x : A) → slice_get xs k ≡ Some x → (m : ℕ) × (slice_get ys m ≡ Some x)

  first_same : (x y : A) (xs ys : List A) → Ascend (x ∷ xs) → Ascend (y ∷ ys) → (m : ℕ) → slice_get (y ∷ ys) m ≡ Some x → (n : ℕ) → slice_get (x ∷ xs) n ≡ Some y → x ≡ y
  first_same x y xs ys up vp zero e n f = sym cc
  first_same x y xs ys up vp (suc m) e zero f = cc
  first_same x y xs ys up vp (suc m) e (suc n) f = absurd (never y x (vp 0 (suc m) y x (omega arith) refl e) (up 0 (suc n) x y (omega arith) refl f))

  -- those that are among others after one first
  others : (x y : A) (xs ys : List A) → Ascend (x ∷ xs) → x ≡ y → AreAmong (x ∷ xs) (y ∷ ys) → AreAmong xs ys
  others x y xs ys up same among k z e = go (among (suc k) z e)
    where
      go : (m : ℕ) × (slice_get (y ∷ ys) m ≡ Some z) → (m : ℕ) × (slice_get ys m ≡ Some z)
      go (zero, f) =
          let before = up 0 (suc k) x z (omega arith) refl e in
          let is : x ≡ z = cc in
          let P : A → Type 0 = λ v. R v z in
          let itself = subst P is before in absurd (never z z itself itself)
      go (suc m, f) = (m, f)

  pub one_ascending : (xs ys : List A) → Ascend xs → Ascend ys → AreAmong xs ys → AreAmong ys xs → xs ≡ ys
  one_ascending [] [] up vp a b = refl
  one_ascending [] (y ∷ ys) up vp a b = let h = b 0 y refl in absurd (none h.0 h.1)
    where
      none : (m : ℕ) → slice_get [] m ≡ Some y → ⊥
      none zero e = cc
      none (suc m) e = cc
  one_ascending (x ∷ xs) [] up vp a b = let h = a 0 x refl in absurd (none h.0 h.1)
    where
      none : (m : ℕ) → slice_get [] m ≡ Some x → ⊥
      none zero e = cc
      none (suc m) e = cc
  one_ascending (x ∷ xs) (y ∷ ys) up vp a b =
      let h = a 0 x refl in let k = b 0 y refl in
      let same = first_same x y xs ys up vp h.0 h.1 k.0 k.1 in
      let below = one_ascending xs ys (λ j k a b lt. up (suc j) (suc k) a b (omega arith))
      (λ j k a b lt. vp (suc j) (suc k) a b (omega arith)) (others x y xs ys up same a)
      (others y x ys xs vp (sym same) b) in
      λ i. same i ∷ below i
