-- Paths compared step by step.
use Rattle.std.proofs.Common.{List, [], arith, drop, drop-cons, get_or, inl, inr, length, suc, ℕ, ◌+◌, ◌<◌, ◌∷◌, ◌≡◌, ◌≤◌, ◌⊎◌}
use Rattle.std.proofs.lemmas.List.{drop_all}
use Rattle.pv_tree.specs.PathOrder.{IsPathBefore}

-- the order of two paths is that of what is left of them
pub record IsLeft (one other : List ℕ) (i : ℕ) : Type 0 where
  pub within : i ≤ length other
  pub to : IsPathBefore (drop i one) (drop i other) → IsPathBefore one other
  pub from : IsPathBefore one other → IsPathBefore (drop i one) (drop i other)

-- ---- one step
module _ (p q : List ℕ) (x y : ℕ) (ps qs : List ℕ) (e : p ≡ x ∷ ps) (f : q ≡ y ∷ qs) where
  steps : IsPathBefore p q → (x < y) ⊎ ((x ≡ y) × IsPathBefore ps qs)
  steps h = rw (e, f) at h

  cons_to : x ≡ y → IsPathBefore ps qs → IsPathBefore p q
  cons_to s h = rw (e, f) (inr (s, h))

  cons_from : x ≡ y → IsPathBefore p q → IsPathBefore ps qs
  cons_from s h = by_case (steps h)
    where
      by_case : (x < y) ⊎ ((x ≡ y) × IsPathBefore ps qs) → IsPathBefore ps qs
      by_case (inl lt) = absurd (omega arith)
      by_case (inr (same, more)) = more

none_before : (p q : List ℕ) → q ≡ [] → IsPathBefore p q → ⊥
none_before [] q e h = rw e at h
none_before (x ∷ ps) q e h = rw e at h

module _ (one other : List ℕ) where
  pub left_none : IsLeft one other 0
  left_none = record { within = omega arith; to = λ h. h; from = λ h. h }

  module _ (i : ℕ) (l : IsLeft one other i) where
    module _ (few : i < length one) where
      head : drop i one ≡ get_or one i 0 ∷ drop (suc i) one
      head = drop-cons one i 0 few

      -- the other path ends here
      pub other_ends : length other ≤ i → IsPathBefore one other → ⊥
      other_ends le h = none_before (drop i one) (drop i other) (drop_all i other le) (l.from h)

      module _ (also : i < length other) where
        behind : drop i other ≡ get_or other i 0 ∷ drop (suc i) other
        behind = drop-cons other i 0 also

        pub same_step : get_or one i 0 ≡ get_or other i 0 → IsLeft one other (i + 1)
        same_step e = record {
          within = omega arith;
          to = λ h. l.to (cons_to (drop i one) (drop i other) (get_or one i 0) (get_or other i 0) (drop (suc i) one) (drop (suc i) other) head behind e (rw next at h));
          from = λ h. rw next (cons_from (drop i one) (drop i other) (get_or one i 0) (get_or other i 0) (drop (suc i) one) (drop (suc i) other) head behind e (l.from h));
        }
          where
            next : i + 1 ≡ suc i
            next = omega arith

    -- this path ends here
    pub one_ends : length one ≤ i → i < length other → IsPathBefore one other
    one_ends le lt = l.to (rw (drop_all i one le, drop-cons other i 0 lt) tt)

    pub both_end : length one ≤ i → length other ≤ i → IsPathBefore one other → ⊥
    both_end le also h = none_before (drop i one) (drop i other) (drop_all i other also) (l.from h)
