-- A path in two parts: the parent and the place.
use Rattle.std.proofs.Common.{◌≡◌, ℕ, suc, ◌-◌, ◌≤◌, List, [], ◌∷◌, ◌++◌, length, take, get_or, false, refl, ap, arith}
use Rattle.pv_edit.specs.Reasons.{is_top}
use Rattle.pv_edit.specs.Effects.{parent_of, kid_place}

pub parent-is : (path : List ℕ) → 1 ≤ length path → take (length path - 1) path ≡ parent_of path
parent-is [] h = absurd (omega arith)
parent-is (i ∷ []) h = refl
parent-is (i ∷ j ∷ path) h =
    let e : length (i ∷ j ∷ path) - 1 ≡ suc (length (j ∷ path) - 1) = omega arith in
    rw e (ap (λ r. i ∷ r) (parent-is (j ∷ path) (omega arith)))

pub place-is : (path : List ℕ) → 1 ≤ length path → get_or path (length path - 1) 0 ≡ kid_place path
place-is [] h = absurd (omega arith)
place-is (i ∷ []) h = refl
place-is (i ∷ j ∷ path) h =
    let e : length (i ∷ j ∷ path) - 1 ≡ suc (length (j ∷ path) - 1) = omega arith in
    rw e (place-is (j ∷ path) (omega arith))

-- the path of a kid
pub parent-kid : (path : List ℕ) (i : ℕ) → parent_of (path ++ i ∷ []) ≡ path
parent-kid [] i = refl
parent-kid (j ∷ []) i = refl
parent-kid (j ∷ k ∷ path) i = ap (λ r. j ∷ r) (parent-kid (k ∷ path) i)

pub place-kid : (path : List ℕ) (i : ℕ) → kid_place (path ++ i ∷ []) ≡ i
place-kid [] i = refl
place-kid (j ∷ []) i = refl
place-kid (j ∷ k ∷ path) i = place-kid (k ∷ path) i

pub path-parts : (path : List ℕ) → is_top path ≡ false → path ≡ parent_of path ++ kid_place path ∷ []
path-parts [] h = absurd cc
path-parts (i ∷ []) h = refl
path-parts (i ∷ j ∷ path) h = ap (λ r. i ∷ r) (path-parts (j ∷ path) refl)
