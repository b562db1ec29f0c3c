-- Points put in place of others.
use Rattle.std.proofs.Common.{◌≡◌, ℕ, List, [], ◌++◌, take, drop, sym, ap, ◌∙◌, append-nil, false}
use Rattle.std.proofs.Common.{true}
use Rattle.std.proofs.Common.{Result, Ok, Err, OnErr, OnOk, is_err}
use Rattle.std.specs.List.{splice}
use Rattle.pv_rematch.specs.declared.points.Point.{Point}

module _ (first last : ℕ) (old points : List Point) where
  pub put_in : (new xs : List Point) → new ≡ splice old first last xs → xs ≡ points →
      (rest : List Point) × (take first old ++ (points ++ drop last old) ≡ new ++ rest)
  put_in new xs e x =
      ([], ap (λ l. take first old ++ (l ++ drop last old)) (sym x) ∙ sym e ∙ sym (append-nil new))

  -- where there is no memory for them
  pub cut_off : (new : List Point) → new ≡ take first old →
      (rest : List Point) × (take first old ++ (points ++ drop last old) ≡ new ++ rest)
  cut_off new e =
      (points ++ drop last old, ap (λ l. l ++ (points ++ drop last old)) (sym e))

pub told_ok : {A E : Type 0} (r : Result A E) (P : Type 0) → is_err r ≡ false → OnOk r P → P
told_ok (Ok x) P e h = h
told_ok (Err x) P e h = absurd cc

pub told_err : {A E : Type 0} (r : Result A E) (P : Type 0) → is_err r ≡ true → OnErr r P → P
told_err (Ok x) P e h = absurd cc
told_err (Err x) P e h = h
