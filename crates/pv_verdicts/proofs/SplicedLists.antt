-- A list in which some elements came in place of others, and the list before.
use Rattle.std.proofs.Common.{List, ap, arith, drop, length, length-append, sym, take, ℕ, ◌++◌, ◌+◌}
use Rattle.std.proofs.Common.{◌∙◌, ◌≡◌, ◌≤◌}
use Rattle.std.specs.List.{between, splice}
use Rattle.std.proofs.lemmas.List.{append_assoc, drop_at, length-take-le, take_at}
use Rattle.std.proofs.lemmas.List.Edits.{split_between}

-- with those that are gone put in place of those that came, it is the list before
pub spliced_back : {A : Type 0} (xs ys : List A) (i j : ℕ) → i ≤ j → j ≤ length xs →
    splice (splice xs i j ys) i (i + length ys) (between i j xs) ≡ xs
spliced_back {A} xs ys i j le lt =
    let after = splice xs i j ys in
    let long : length (take i xs) ≡ i = length-take-le i xs (omega arith) in
    let front : take i after ≡ take i xs = take_at (take i xs) (ys ++ drop j xs) i long in
    let more : length (take i xs ++ ys) ≡ i + length ys =
    length-append (take i xs) ys ∙ ap (λ n. n + length ys) long in
    let back : drop (i + length ys) after ≡ drop j xs =
    ap (λ (v : List A). drop (i + length ys) v) (sym (append_assoc (take i xs) ys (drop j xs)))
    ∙ drop_at (take i xs ++ ys) (drop j xs) (i + length ys) more in
    ap (λ (v : List A). v ++ (between i j xs ++ drop (i + length ys) after)) front
    ∙ ap (λ (v : List A). take i xs ++ (between i j xs ++ v)) back
    ∙ sym (split_between xs i j le)
