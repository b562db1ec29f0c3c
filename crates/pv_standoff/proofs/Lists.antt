-- Lists cut in two.
use Rattle.std.proofs.Common.{◌≡◌, ◌⊎◌, inl, inr, ℕ, ◌<◌, ◌≤◌, suc, List, [], ◌∷◌, ◌++◌, zero, drop, map, length, refl, sym, subst, arith}
use Rattle.std.specs.List.{AllByRecursion}

pub all-append : {X : Type 0} (P : X → Type 0) (a b : List X) → AllByRecursion P a → AllByRecursion P b → AllByRecursion P (a ++ b)
all-append P [] b p q = q
all-append P (x ∷ a) b p q = (p.0, all-append P a b p.1 q)

pub all-left : {X : Type 0} (P : X → Type 0) (a b : List X) → AllByRecursion P (a ++ b) → AllByRecursion P a
all-left P [] b p = tt
all-left P (x ∷ a) b p = (p.0, all-left P a b p.1)

pub all-right : {X : Type 0} (P : X → Type 0) (a b : List X) → AllByRecursion P (a ++ b) → AllByRecursion P b
all-right P [] b p = p
all-right P (x ∷ a) b p = all-right P a b p.1

pub all-map : {X : Type 0} (P Q : X → Type 0) (a : List X) → ((x : X) → P x → Q x) → AllByRecursion P a → AllByRecursion Q a
all-map P Q [] f p = tt
all-map P Q (x ∷ a) f p = (f x p.0, all-map P Q a f p.1)

pub all-both : {X : Type 0} (P Q R : X → Type 0) (a : List X) → ((x : X) → P x → Q x → R x) → AllByRecursion P a → AllByRecursion Q a → AllByRecursion R a
all-both P Q R [] f p q = tt
all-both P Q R (x ∷ a) f p q = (f x p.0 q.0, all-both P Q R a f p.1 q.1)

-- two lists that are cut after as many elements
pub same_cut : {X : Type 0} (a a' b b' : List X) → length a ≡ length a' → a ++ b ≡ a' ++ b' → (a ≡ a') × (b ≡ b')
same_cut [] [] b b' l e = (refl, e)
same_cut [] (x ∷ a') b b' l e = absurd (omega (arith, l))
same_cut (x ∷ a) [] b b' l e = absurd (omega (arith, l))
same_cut (x ∷ a) (y ∷ a') b b' l e =
    let h : x ≡ y = cc in
    let t : a ++ b ≡ a' ++ b' = cc in
    let i = same_cut a a' b b' (omega (arith, l)) t in
    let j = i.0 in
    (cc, i.1)

-- two lists that are cut where a number passes m
pub same_split : {X : Type 0} (f : X → ℕ) (m : ℕ) (a a' b b' : List X) → AllByRecursion (λ x. f x < m) a → AllByRecursion (λ x. f x < m) a' →
    AllByRecursion (λ x. m ≤ f x) b → AllByRecursion (λ x. m ≤ f x) b' → a ++ b ≡ a' ++ b' → (a ≡ a') × (b ≡ b')
same_split f m [] [] b b' p p' q q' e = (refl, e)
same_split f m [] (x ∷ a') b b' p p' q q' e = let h : AllByRecursion (λ x. m ≤ f x) (x ∷ (a' ++ b')) = subst (λ z. AllByRecursion (λ x. m ≤ f x) z) e q in absurd (omega (arith, h.0, p'.0))
same_split f m (x ∷ a) [] b b' p p' q q' e = let h : AllByRecursion (λ x. m ≤ f x) (x ∷ (a ++ b)) = subst (λ z. AllByRecursion (λ x. m ≤ f x) z) (sym e) q' in absurd (omega (arith, h.0, p.0))
same_split f m (x ∷ a) (y ∷ a') b b' p p' q q' e =
    let h : x ≡ y = cc in
    let t : a ++ b ≡ a' ++ b' = cc in
    let i = same_split f m a a' b b' p.1 p'.1 q q' t in
    let j = i.0 in
    (cc, i.1)

pub drop-map : {X Y : Type 0} (f : X → Y) (n : ℕ) (xs : List X) → drop n (map f xs) ≡ map f (drop n xs)
drop-map f zero xs = refl
drop-map f (suc n) [] = refl
drop-map f (suc n) (x ∷ xs) = drop-map f n xs

-- two cuts of one list: at the same place, or one of them further on
abbrev pub OneIsFurther : {X : Type 0} → List X → X → List X → List X → X → List X → Type 0
OneIsFurther {X = X} a x b a' x' b' = ((a ≡ a') × (x ≡ x')) ⊎ (((m : List X) × (a' ≡ a ++ x ∷ m) × (b ≡ m ++ x' ∷ b')) ⊎ ((m : List X) × (a ≡ a' ++ x' ∷ m) × (b' ≡ m ++ x ∷ b)))

pub cuts : {X : Type 0} (a : List X) (x : X) (b a' : List X) (x' : X) (b' : List X) → a ++ x ∷ b ≡ a' ++ x' ∷ b' → OneIsFurther a x b a' x' b'
cuts [] x b [] x' b' e = inl (refl, cc)
cuts [] x b (y ∷ a') x' b' e = let h : x ≡ y = cc in let t : b ≡ a' ++ x' ∷ b' = cc in inr (inl (a', (λ i. sym h i ∷ a'), t))
cuts (y ∷ a) x b [] x' b' e = let h : y ≡ x' = cc in let t : a ++ x ∷ b ≡ b' = cc in inr (inr (a, (λ i. h i ∷ a), sym t))
cuts (y ∷ a) x b (y' ∷ a') x' b' e =
    let h : y ≡ y' = cc in
    let t : a ++ x ∷ b ≡ a' ++ x' ∷ b' = cc in
    elim (cuts a x b a' x' b' t) [
      | inl s ↦ inl ((λ i. h i ∷ s.0 i), s.1)
      | inr f ↦ elim f [
        | inl g ↦ inr (inl (g.0, (λ i. sym h i ∷ g.1 i), g.2))
        | inr g ↦ inr (inr (g.0, (λ i. h i ∷ g.1 i), g.2))
      ]
    ]
