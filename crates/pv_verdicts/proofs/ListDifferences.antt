-- Two lists that are the same but for a part.
use Rattle.std.proofs.Common.{List, ap, arith, drop, length, sym, take, ℕ, ◌++◌, ◌+◌, ◌-◌, ◌∙◌, ◌≡◌}
use Rattle.std.proofs.Common.{◌≤◌}
use Rattle.std.specs.List.{between, splice}
use Rattle.std.proofs.lemmas.List.{drop-drop, length-drop, take_all}
use Rattle.std.proofs.lemmas.List.Edits.{split_between}

-- with the part that is gone put in place of the one that came, it is the list before
pub put_back : {A : Type 0} (xs ys : List A) (f i j : ℕ) → f ≤ i → take f xs ≡ take f ys →
    drop i xs ≡ drop j ys → splice ys f j (between f i xs) ≡ xs
put_back {A} xs ys f i j le front back =
    ap (λ (v : List A). v ++ (between f i xs ++ drop j ys)) (sym front)
    ∙ ap (λ (v : List A). take f xs ++ (between f i xs ++ v)) (sym back)
    ∙ sym (split_between xs f i le)

-- what a slice from here on is
abbrev rest : {A : Type 0} → ℕ → List A → List A
rest f xs = take (length xs - f) (drop f xs)

rest_is : {A : Type 0} (f : ℕ) (xs : List A) → rest f xs ≡ drop f xs
rest_is f xs = take_all (length xs - f) (drop f xs) (omega (arith, length-drop f xs))

rest_long : {A : Type 0} (f : ℕ) (xs : List A) → length (rest f xs) ≡ length xs - f
rest_long f xs = ap length (rest_is f xs) ∙ length-drop f xs

-- such a slice's last k elements stand after f
pub ends_behind : {A : Type 0} (xs : List A) (f k : ℕ) → f ≤ length xs → k ≤ length (rest f xs) →
    f ≤ length xs - k
ends_behind xs f k fx kx = omega (arith, rest_long f xs, fx, kx)

at_back : {A : Type 0} (xs : List A) (f k : ℕ) → f + k ≤ length xs →
    drop (length xs - k - f) (rest f xs) ≡ drop (length xs - k) xs
at_back xs f k le =
    ap (drop (length xs - k - f)) (rest_is f xs) ∙ drop-drop (length xs - k - f) f xs
    ∙ ap (λ (n : ℕ). drop n xs) (omega (arith, le))

-- where the slices from f on end in the same k elements, so do the lists
pub same_back : {A : Type 0} (xs ys : List A) (f k : ℕ) → f ≤ length xs → f ≤ length ys →
    k ≤ length (rest f xs) → k ≤ length (rest f ys) →
    ((i j : ℕ) → i + k ≡ length (rest f xs) → j + k ≡ length (rest f ys) →
    drop i (rest f xs) ≡ drop j (rest f ys)) →
    drop (length xs - k) xs ≡ drop (f + (length ys - k - f)) ys
same_back xs ys f k fx fy kx ky same =
    let x = rest_long f xs in
    let y = rest_long f ys in
    let i = length xs - k - f in
    let j = length ys - k - f in
    let back = same i j (omega (arith, x, fx, kx)) (omega (arith, y, fy, ky)) in
    sym (at_back xs f k (omega (arith, x, fx, kx))) ∙ back
    ∙ at_back ys f k (omega (arith, y, fy, ky))
    ∙ ap (λ (n : ℕ). drop n ys) (omega (arith, y, fy, ky))
