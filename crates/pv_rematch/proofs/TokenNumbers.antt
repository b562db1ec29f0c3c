-- Numbers of tokens that are without a property.
use Rattle.std.proofs.Common.{List, [], arith, inl, inr, length, subst, suc, ℕ, ◌∷◌, ◌≡◌, ◌++◌, ◌+◌}
use Rattle.std.proofs.Common.{◌-◌, ◌≤◌, refl}
use Rattle.std.specs.List.{AllByRecursion}
use Rattle.pv_model.specs.Plain.{PlainToken}
use Rattle.pv_rematch.specs.Counts.{AreWithout}

module _ (P : PlainToken → Type 0) where
  -- a word has one number
  one_number : (v : List PlainToken) (n m : ℕ) → AreWithout P v n → AreWithout P v m → n ≡ m
  one_number [] n m a b = cc
  one_number (t ∷ v) n m (inl a) (inl b) = one_number v n m a.1 b.1
  one_number (t ∷ v) n m (inl a) (inr b) = absurd (b.1 a.0)
  one_number (t ∷ v) n m (inr a) (inl b) = absurd (a.1 b.0)
  one_number (t ∷ v) n m (inr (i, p, e, a)) (inr (j, q, f, b)) = let z = one_number v i j a b in cc

  -- which is no more than its tokens are
  pub at_most : (v : List PlainToken) (n : ℕ) → AreWithout P v n → n ≤ length v
  at_most [] n a = omega arith
  at_most (t ∷ v) n (inl a) = let z = at_most v n a.1 in omega arith
  at_most (t ∷ v) n (inr (i, p, e, a)) = let z = at_most v i a in omega arith

  -- that of two words, one after the other, is the sum
  pub number_of_both : (v w : List PlainToken) (n m : ℕ) → AreWithout P v n → AreWithout P w m →
      AreWithout P (v ++ w) (n + m)
  number_of_both [] w n m a b = let F : ℕ → Type 0 = AreWithout P w in subst F (omega arith) b
  number_of_both (t ∷ v) w n m (inl a) b = inl (a.0, number_of_both v w n m a.1 b)
  number_of_both (t ∷ v) w n m (inr (i, p, e, a)) b =
      inr (i + m, p, omega arith, number_of_both v w i m a b)

  cut_in_two : (v w : List PlainToken) (n : ℕ) → AreWithout P (v ++ w) n →
      (i : ℕ) × (j : ℕ) × (n ≡ i + j) × AreWithout P v i × AreWithout P w j
  cut_in_two [] w n a = (0, n, omega arith, refl, a)
  cut_in_two (t ∷ v) w n (inl (p, a)) =
      let (i, j, e, b, c) = cut_in_two v w n a in (i, j, e, inl (p, b), c)
  cut_in_two (t ∷ v) w n (inr (m, p, e, a)) =
      let (i, j, f, b, c) = cut_in_two v w m a in (suc i, j, omega arith, inr (i, p, refl, b), c)

  -- none is without it exactly where all have it
  pub all_of_none : (v : List PlainToken) (n : ℕ) → n ≡ 0 → AreWithout P v n → AllByRecursion P v
  all_of_none [] n z a = tt
  all_of_none (t ∷ v) n z (inl a) = (a.0, all_of_none v n z a.1)
  all_of_none (t ∷ v) n z (inr (i, p, e, a)) = absurd (omega arith)

  pub none_of_all : (v : List PlainToken) (n : ℕ) → AllByRecursion P v → AreWithout P v n → n ≡ 0
  none_of_all [] n all a = a
  none_of_all (t ∷ v) n all (inl a) = none_of_all v n all.1 a.1
  none_of_all (t ∷ v) n all (inr a) = absurd (a.1 all.0)

  -- one more token, by a test of it
  pub one_with : (v : List PlainToken) (t : PlainToken) (n : ℕ) → P t → AreWithout P v n →
      AreWithout P (v ++ t ∷ []) n
  one_with v t n p a =
      let F : ℕ → Type 0 = AreWithout P (v ++ t ∷ []) in
      subst F (omega arith) (number_of_both v (t ∷ []) n 0 a (inl (p, refl)))

  pub one_without : (v : List PlainToken) (t : PlainToken) (n : ℕ) → (P t → ⊥) → AreWithout P v n →
      AreWithout P (v ++ t ∷ []) (n + 1)
  one_without v t n p a = number_of_both v (t ∷ []) n 1 a (inr (0, p, refl, refl))

  -- where other tokens come in place of some, the number is told by the difference
  pub by_difference : (front gone came back : List PlainToken) (n i j : ℕ) →
      AreWithout P (front ++ (gone ++ back)) n → AreWithout P gone i → AreWithout P came j →
      (i ≤ n) × AreWithout P (front ++ (came ++ back)) (n - i + j)
  by_difference front gone came back n i j a g c =
      let (f, r, e, h, b) = cut_in_two front (gone ++ back) n a in
      let (k, l, d, o, s) = cut_in_two gone back r b in
      let z : k ≡ i = one_number gone k i o g in
      let W : ℕ → Type 0 = AreWithout P (front ++ (came ++ back)) in (
        omega arith,
        subst W (omega arith)
            (number_of_both front (came ++ back) f (j + l) h (number_of_both came back j l c s)),
      )
