-- Where names differ, each has its own number.
use Rattle.std.proofs.Common.{◌≡◌, ℕ, zero, suc, List, [], ◌∷◌, not, Bool, true, false, cond, Some, refl, sym, ap, ◌∙◌}
use Rattle.std.proofs.lemmas.Slice.Eq.{bytes_eq-Decides}
use Rattle.std.specs.List.{list_any, slice_get}
use Rattle.std.specs.Option.{option_map}
use Rattle.std.specs.Str.{bytes_eq}
use Rattle.std.proofs.lemmas.Bool.{and_parts, or_right}
use Rattle.pv_dtd.specs.Plain.{place_of}
use Rattle.pv_dtd.specs.Facts.{are_distinct}
use Rattle.pv_chars.proofs.ReaderSteps.{same_some}

-- each name has its first place for its number
abbrev pub AreApart : List (List ℕ) → Type 0
AreApart ns = (y : ℕ) (x : List ℕ) → slice_get ns y ≡ Some x → place_of ns x ≡ Some y

pub any_at : (x : List ℕ) (ns : List (List ℕ)) (y : ℕ) → slice_get ns y ≡ Some x → list_any (bytes_eq x) ns ≡ true
any_at x [] y e = cc
any_at x (n ∷ ns) zero e = rw ((bytes_eq-Decides x n).1 (sym (same_some _ _ e))) refl
any_at x (n ∷ ns) (suc y) e = or_right (bytes_eq x n) (list_any (bytes_eq x) ns) (any_at x ns y e)

later : (n x : List ℕ) (ns : List (List ℕ)) (y : ℕ) (same : Bool) → bytes_eq x n ≡ same →
    not (list_any (bytes_eq n) ns) ≡ true → slice_get ns y ≡ Some x → place_of ns x ≡ Some y →
    cond same (Some 0) (option_map suc (place_of ns x)) ≡ Some (suc y)
later n x ns y true is new at below =
    let there : list_any (bytes_eq n) ns ≡ true = ap (λ m. list_any (bytes_eq m) ns) (sym ((bytes_eq-Decides x n).0 is)) ∙ any_at x ns y at in
    cc
later n x ns y false is new at below = rw below refl

pub apart_from_distinct : (names : List (List ℕ)) → are_distinct names ≡ true → AreApart names
apart_from_distinct [] distinct y x e = cc
apart_from_distinct (n ∷ ns) distinct zero x e = rw ((bytes_eq-Decides x n).1 (sym (same_some _ _ e))) refl
apart_from_distinct (n ∷ ns) distinct (suc y) x e =
    let parts = and_parts (not (list_any (bytes_eq n) ns)) (are_distinct ns) distinct in
    later n x ns y (bytes_eq x n) refl parts.0 e (apart_from_distinct ns parts.1 y x e)
