-- Where a list of places in order is split.
use Rattle.std.proofs.Common.{◌≡◌, ℕ, zero, suc, ◌≤◌, ◌<◌, true, false, List, [], ◌∷◌, ◌++◌, length, get_or, refl, ap, ltb, ltb-true, arith}
use Rattle.std.proofs.lemmas.Bool.Decides.{nat_tests}
use Rattle.std.specs.List.Sorted.{IsPartitionedBy, IsPartitionPoint}
use Rattle.pv_model.specs.Layouts.{AreBefore, AreFrom}

is_before : (k middle : ℕ) → k < middle → ltb k middle ≡ true
is_before k middle h = grind (arith, nat_tests)

not_before : (k middle : ℕ) → middle ≤ k → ltb k middle ≡ true → ⊥
not_before k middle h e = let lt = ltb-true k middle e in omega arith

is_from : (middle : ℕ) (ys : List ℕ) (j d : ℕ) → AreFrom middle ys → j < length ys → middle ≤ get_or ys j d
is_from middle [] j d h l = absurd (omega arith)
is_from middle (y ∷ ys) zero d h l = h.0
is_from middle (y ∷ ys) (suc j) d h l = is_from middle ys j d h.1 (omega arith)

front_more : (middle x : ℕ) (ks : List ℕ) → x < middle → IsPartitionedBy (λ k. ltb k middle) ks → (i j d : ℕ) → i ≤ j → j < length (x ∷ ks) →
    ltb (get_or (x ∷ ks) j d) middle ≡ true → ltb (get_or (x ∷ ks) i d) middle ≡ true
front_more middle x ks h rest zero j d l w e = is_before x middle h
front_more middle x ks h rest (suc i) zero d l w e = absurd (omega arith)
front_more middle x ks h rest (suc i) (suc j) d l w e = rest i j d (omega arith) (omega arith) e

pub IsPartitionedBy-joined : (middle : ℕ) (xs ys : List ℕ) → AreBefore middle xs → AreFrom middle ys → IsPartitionedBy (λ k. ltb k middle) (xs ++ ys)
IsPartitionedBy-joined middle [] ys h k = λ i j d l w e. absurd (not_before (get_or ys j d) middle (is_from middle ys j d k w) e)
IsPartitionedBy-joined middle (x ∷ xs) ys h k = front_more middle x (xs ++ ys) h.0 (IsPartitionedBy-joined middle xs ys h.1 k)

-- the place where the test fails first is where the second part begins
pub point-joined : (middle : ℕ) (xs ys : List ℕ) (i : ℕ) → AreBefore middle xs → AreFrom middle ys → i ≤ length (xs ++ ys) →
    IsPartitionPoint (λ k. ltb k middle ≡ true) (λ k. ltb k middle ≡ false) (xs ++ ys) i → i ≡ length xs
point-joined middle [] ys zero h k l p = refl
point-joined middle [] [] (suc i) h k l p = absurd (omega arith)
point-joined middle [] (y ∷ ys) (suc i) h k l p = absurd (not_before y middle k.0 (p.0 0 0 (omega arith) (omega arith)))
point-joined middle (x ∷ xs) ys zero h k l p =
    let yes = is_before x middle h.0 in
    let no = p.1 0 0 (omega arith) (omega arith) in
    absurd cc
point-joined middle (x ∷ xs) ys (suc i) h k l p =
    ap suc (point-joined middle xs ys i h.1 k (omega arith)
    ((λ j d low high. p.0 (suc j) d (omega arith) (omega arith)), (λ j d low high. p.1 (suc j) d (omega arith) (omega arith))))
