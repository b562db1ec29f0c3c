-- A part of a list that gives way to another.
use Rattle.std.proofs.Common.{List, ap, arith, append_assoc, drop, length, refl, sym, take, ℕ, ◌++◌}
use Rattle.std.proofs.Common.{◌+◌, ◌-◌, ◌∙◌, ◌≡◌, ◌≤◌}
use Rattle.std.proofs.Math.Seq.{take-append_seam, drop-append_seam}
use Rattle.std.proofs.lemmas.List.{drop_at, length-append, length-drop, length-take-le, take_at}
use Rattle.std.proofs.lemmas.List.{drop-drop, take-append-drop}
use Rattle.std.specs.List.{between, splice}
use Rattle.pv_verdicts.proofs.ListDifferences.{put_back}

-- with what is gone put in place of what came, it is the list before
pub followed_back : {A : Type 0} (xs came gone ys : List A) (from to : ℕ) → from ≤ to →
    to ≤ length xs → ys ≡ splice xs from to came → gone ≡ between from to xs →
    splice ys from (from + length came) gone ≡ xs
followed_back xs came gone ys from to h w y g =
    let zs = splice xs from to came in
    let l : length (take from xs) ≡ from = length-take-le from xs (omega arith) in
    let n : length (take from xs ++ came) ≡ from + length came =
    length-append (take from xs) came ∙ ap (λ (k : ℕ). k + length came) l in
    let front : take from xs ≡ take from zs =
    sym (take_at (take from xs) (came ++ drop to xs) from l) in
    let back : drop to xs ≡ drop (from + length came) zs =
    sym (ap (drop (from + length came)) (sym (append_assoc (take from xs) came (drop to xs)))
    ∙ drop_at (take from xs ++ came) (drop to xs) (from + length came) n) in
    rw (y, g) (put_back xs zs from to (from + length came) h front back)

-- the last of a list, put before those from a place on
rotated : {A : Type 0} (a b f : List A) (from n : ℕ) → length a ≡ from → length b ≡ n →
    take from ((a ++ b) ++ f) ++
    (drop n (drop from ((a ++ b) ++ f)) ++ take n (drop from ((a ++ b) ++ f)))
    ≡ a ++ (f ++ b)
rotated a b f from n e g =
    rw (
      ← e,
      ← g,
      append_assoc a b f,
      take-append_seam a (b ++ f),
      drop-append_seam a (b ++ f),
      drop-append_seam b f,
      take-append_seam b f,
    ) refl

-- what came is put at the end, moved to its place, and what is gone after it taken out
pub exchanged : {A : Type 0} (xs came put moved all : List A) (from to n start end : ℕ) →
    from ≤ to → to ≤ length xs → put ≡ xs ++ came → from + n ≡ length xs →
    moved ≡ take from put ++ (drop n (drop from put) ++ take n (drop from put)) →
    start ≡ from + length came → end ≡ to + length came →
    all ≡ take start moved ++ drop end moved → all ≡ splice xs from to came
exchanged xs came put moved all from to n start end h w p k m s e r =
    let a = take from xs in
    let b = drop from xs in
    let l : length a ≡ from = length-take-le from xs (omega arith) in
    let is : put ≡ (a ++ b) ++ came =
    p ∙ ap (λ v. v ++ came) (sym (take-append-drop from xs)) in
    let turned : moved ≡ a ++ (came ++ b) =
    m ∙ ap (λ v. take from v ++ (drop n (drop from v) ++ take n (drop from v))) is
    ∙ rotated a b came from n l (length-drop from xs ∙ omega (arith, k)) in
    let joined : a ++ (came ++ b) ≡ (a ++ came) ++ b = sym (append_assoc a came b) in
    let count : length (a ++ came) ≡ start =
    length-append a came ∙ ap (λ (i : ℕ). i + length came) l ∙ sym s in
    let front : take start moved ≡ a ++ came =
    ap (take start) (turned ∙ joined) ∙ take_at (a ++ came) b start count in
    let cut : end ≡ start + (to - from) = omega arith in
    let back : drop end moved ≡ drop to xs =
    ap (λ (i : ℕ). drop i moved) cut
    ∙ sym (drop-drop (to - from) start moved)
    ∙ ap (drop (to - from)) (ap (drop start) (turned ∙ joined) ∙ drop_at (a ++ came) b start count)
    ∙ drop-drop (to - from) from xs
    ∙ ap (λ (i : ℕ). drop i xs) (omega arith) in
    r ∙ rw (front, back) (append_assoc a came (drop to xs))
