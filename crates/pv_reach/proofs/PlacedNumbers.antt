-- Numbers that are placed once.
use Rattle.std.proofs.Common.{Bool, Contains, List, [], ap, arith, false, get_or, inl, inr, length, refl, replicate, suc, take, true, zero, ℕ, ◌++◌, ◌+◌, ◌<◌, ◌∷◌, ◌≡◌, ◌⊎◌}
use Rattle.std.proofs.lemmas.List.Elements.{Contains-append_left, Contains-append_right}
use Rattle.pv_reach.proofs.NameRules.{either_name}

-- what is set is placed, and so is what the loop has passed
pub record ArePlaced (names once : List ℕ) (flags : List Bool) (i : ℕ) : Type 0 where
  pub set : (x : ℕ) → get_or flags x false ≡ true → Contains once x
  pub passed : (x : ℕ) → Contains (take i names) x → Contains once x

module _ (names once : List ℕ) (flags : List Bool) (i : ℕ) (before : ArePlaced names once flags i) (lt : i < length names) where
  pub placed_before : get_or flags (get_or names i 0) false ≡ true → ArePlaced names once flags (i + 1)
  placed_before e = record {
    set = before.set;
    passed = λ x con. elim (either_name names i lt x con) [ inl c ↦ before.passed x c | inr z ↦ rw z (before.set (get_or names i 0) e) ];
  }

  pub placed_now : (new : List ℕ) (after : List Bool) → new ≡ once ++ (get_or names i 0 ∷ []) → ((x : ℕ) → get_or after x false ≡ true → (x ≡ get_or names i 0) ⊎ (get_or flags x false ≡ true)) →
      ArePlaced names new after (i + 1)
  placed_now new after e flags_of = record {
    set = λ x m. elim (flags_of x m) [ inl z ↦ rw z here | inr k ↦ kept x (before.set x k) ];
    passed = λ x con. elim (either_name names i lt x con) [ inl c ↦ kept x (before.passed x c) | inr z ↦ rw z here ];
  }
    where
      kept : (x : ℕ) → Contains once x → Contains new x
      kept x c = rw e (Contains-append_left once (get_or names i 0 ∷ []) x c)

      here : Contains new (get_or names i 0)
      here = rw e (Contains-append_right once (get_or names i 0 ∷ []) (get_or names i 0) (0, omega arith, refl))

pub unset : (n x : ℕ) → get_or (replicate n false) x false ≡ false
unset zero x = refl
unset (suc n) zero = refl
unset (suc n) (suc x) = unset n x

pub placed_none : (names once : List ℕ) (flags : List Bool) (n : ℕ) → flags ≡ replicate n false → ArePlaced names once flags 0
placed_none names once flags n e = record {
  set = λ x m. absurd (let z = unset n x in let y = ap (λ v. get_or v x false) e in cc);
  passed = λ x t. absurd (let l = t.1 in omega arith);
}
