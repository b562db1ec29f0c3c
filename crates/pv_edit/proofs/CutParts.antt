-- A part of a list that gives way to another, and comes back.
use Rattle.std.proofs.Common.{◌≡◌, ◌∙◌, ap, sym, refl, ℕ, zero, suc, ◌+◌, ◌-◌, ◌≤◌, List, [], ◌∷◌, ◌++◌, length, take, drop, Some, slice_get, arith, add-one}
use Rattle.std.specs.List.{between, splice}
use Rattle.std.proofs.Math.Seq.{take-append_seam, drop-append_seam, drop-append-add}
use Rattle.std.proofs.lemmas.List.{length-append, length-take-le}
use Rattle.std.proofs.lemmas.List.Edits.{split_between}
use Rattle.pv_tree.specs.Plain.{Tree}
use Rattle.pv_edit.specs.Changes.{Change, in_place_of, list_after}

splice-parts : {X : Type 0} (front mid back ys : List X) → splice (front ++ (mid ++ back)) (length front) (length front + length mid) ys ≡ front ++ (ys ++ back)
splice-parts front mid back ys = rw (take-append_seam front (mid ++ back), drop-append-add front (mid ++ back) (length mid), drop-append_seam mid back) refl

between-parts : {X : Type 0} (front mid back : List X) → between (length front) (length front + length mid) (front ++ (mid ++ back)) ≡ mid
between-parts front mid back =
    let e : length front + length mid - length front ≡ length mid = omega arith in
    rw (drop-append_seam front (mid ++ back), e) (take-append_seam mid back)

pub front-length : {X : Type 0} (ts : List X) (from to : ℕ) → from ≤ to → to ≤ length ts → length (take from ts) ≡ from
front-length ts from to h w = length-take-le from ts (omega arith)

-- what came in place
pub new-part : {M : Type 0} (c : Change M) (ts : List (Tree M)) → c.from ≤ c.to → c.to ≤ length ts →
    between c.from (c.from + length (in_place_of c.filling (between c.from c.to ts)))
    (list_after c ts) ≡ in_place_of c.filling (between c.from c.to ts)
new-part c ts h w =
    let new = in_place_of c.filling (between c.from c.to ts) in
    let n = front-length ts c.from c.to h w in
    ap (λ (i : ℕ). between i (i + length new) (list_after c ts)) (sym n) ∙ between-parts (take c.from ts) new (drop c.to ts)

-- and gives way again
pub list-back : {M : Type 0} (c d : Change M) (ts : List (Tree M)) → c.from ≤ c.to → c.to ≤ length ts → d.from ≡ c.from → d.to ≡ c.from + length (in_place_of c.filling (between c.from c.to ts))
    → in_place_of d.filling (in_place_of c.filling (between c.from c.to ts)) ≡ between c.from c.to ts → list_after d (list_after c ts) ≡ ts
list-back c d ts h w f t b =
    let new = in_place_of c.filling (between c.from c.to ts) in
    let n = front-length ts c.from c.to h w in
    let mid = new-part c ts h w in
    rw (f, t, mid, b)
    (ap (λ (i : ℕ). splice (list_after c ts) i (i + length new) (between c.from c.to ts)) (sym n) ∙ splice-parts (take c.from ts) new (drop c.to ts) (between c.from c.to ts)
    ∙ sym (split_between ts c.from c.to h))

pub list-length : {M : Type 0} (c : Change M) (ts : List (Tree M)) → c.from ≤ c.to → c.to ≤ length ts → c.from + length (in_place_of c.filling (between c.from c.to ts)) ≤ length (list_after c ts)
list-length c ts h w =
    let n = front-length ts c.from c.to h w in
    simp length-append (omega (arith, n))

take-one : {X : Type 0} (xs : List X) (i : ℕ) (x : X) → slice_get xs i ≡ Some x → take 1 (drop i xs) ≡ x ∷ []
take-one [] i x h = absurd cc
take-one (y ∷ xs) zero x h = let e : y ≡ x = cc in ap (λ z. z ∷ []) e
take-one (y ∷ xs) (suc i) x h = take-one xs i x h

take-two : {X : Type 0} (xs : List X) (i : ℕ) (x y : X) → slice_get xs i ≡ Some x → slice_get xs (suc i) ≡ Some y → take 2 (drop i xs) ≡ x ∷ y ∷ []
take-two [] i x y h k = absurd cc
take-two (z ∷ xs) zero x y h k = let e : z ≡ x = cc in ap (λ w. w ∷ take 1 xs) e ∙ ap (λ l. x ∷ l) (take-one xs zero y k)
take-two (z ∷ xs) (suc i) x y h k = take-two xs i x y h k

-- one kid, and two side by side
pub between-kid : {X : Type 0} (xs : List X) (i : ℕ) (x : X) → slice_get xs i ≡ Some x → between i (i + 1) xs ≡ x ∷ []
between-kid xs i x h = let e : i + 1 - i ≡ 1 = omega arith in rw e (take-one xs i x h)

pub between-kids : {X : Type 0} (xs : List X) (i : ℕ) (x y : X) → slice_get xs i ≡ Some x → slice_get xs (i + 1) ≡ Some y → between i (i + 2) xs ≡ x ∷ y ∷ []
between-kids xs i x y h k = let e : i + 2 - i ≡ 2 = omega arith in rw e (take-two xs i x y h (rw add-one at k))

pub between-none : {X : Type 0} (xs : List X) (i : ℕ) → between i i xs ≡ []
between-none xs i = let e : i - i ≡ 0 = omega arith in rw e refl
