-- What stands after a place stands after each later one.
use Rattle.std.proofs.Common.{◌≡◌, ℕ, ◌+◌, ◌-◌, ◌≤◌, List, drop, sym, ap, ◌∙◌, arith}
use Rattle.std.proofs.lemmas.List.{drop-drop}

pub same-behind : (m n : ℕ) (xs ys : List ℕ) → drop m xs ≡ drop m ys → m ≤ n → drop n xs ≡ drop n ys
same-behind m n xs ys same less =
    let sum : m + (n - m) ≡ n = omega arith in
    let back : (zs : List ℕ) → drop n zs ≡ drop (n - m) (drop m zs) = λ (zs : List ℕ). ap (λ k. drop k zs) (sym sum) ∙ sym (drop-drop (n - m) m zs) in
    back xs ∙ ap (drop (n - m)) same ∙ sym (back ys)
