-- Derivations by one rule, and what each right side has.
use Rattle.std.proofs.Common.{List, [], arith, refl, ℕ, ◌+◌, ◌∷◌, ◌≡◌}
use Rattle.pv_rules.specs.Derivations.{Derives, by_rule, none_left, one_more}
use Rattle.pv_rules.proofs.DerivationLaws.{HaveAll}

module _ {G : Type 0} (R : G → ℕ → List G → Type 0) (x : G) where
  pub made_none : (n c : ℕ) → n ≡ c → R x c [] → Derives R n x
  made_none n c e r = by_rule n c 0 x [] (omega arith) r (none_left 0 refl)

  pub made_one : (n c a : ℕ) (y : G) → n ≡ c + a → R x c (y ∷ []) → Derives R a y → Derives R n x
  made_one n c a y e r d = by_rule n c a x (y ∷ []) e r (one_more a a 0 y [] (omega arith) d (none_left 0 refl))

  pub made_two : (n c a b : ℕ) (y z : G) → n ≡ c + (a + b) → R x c (y ∷ z ∷ []) → Derives R a y → Derives R b z → Derives R n x
  made_two n c a b y z e r d o =
      by_rule n c (a + b) x (y ∷ z ∷ []) e r (one_more (a + b) a b y (z ∷ []) refl d (one_more b b 0 z [] (omega arith) o (none_left 0 refl)))

module _ {G : Type 0} (P : ℕ → G → Type 0) (m : ℕ) (xs : List G) (h : HaveAll P m xs) where
  pub none_have : xs ≡ [] → m ≡ 0
  none_have f = let k : HaveAll P m [] = rw f at h in k

  pub one_have : (y : G) → xs ≡ y ∷ [] → P m y
  one_have y f = let k : HaveAll P m (y ∷ []) = rw f at h in let z = k.4 in let e : m ≡ k.0 = omega arith in rw e k.3

  pub two_have : (y z : G) → xs ≡ y ∷ z ∷ [] → (a : ℕ) × (b : ℕ) × (m ≡ a + b) × P a y × P b z
  two_have y z f =
      let k : HaveAll P m (y ∷ z ∷ []) = rw f at h in
      let l = k.4 in let o = l.4 in let e : k.1 ≡ l.0 = omega arith in
      (k.0, l.0, (let q = k.2 in omega arith), k.3, l.3)
