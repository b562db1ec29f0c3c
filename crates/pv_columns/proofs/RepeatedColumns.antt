-- What columns repeat.
use Rattle.std.specs.Prelude.{bit_or}
use Rattle.std.proofs.Common.{Bool, Contains, List, Some, [], ap, get_or, inl, inr, length, refl, set, subst, sym, ℕ, ◌/◌, ◌%◌, ◌<◌, ◌∙◌, ◌∷◌, ◌≡◌, ◌⊎◌, get_or-set_other, get_or-set_same}
use Rattle.pv_model.specs.declared.models.Token.{Token}
use Rattle.pv_columns.specs.Takes.{Repeats, repeats_column, repeats_token}
use Rattle.pv_columns.specs.declared.rules.ColumnRule.{ColumnRule}
use Rattle.pv_columns.specs.Bits.{HasIn, bit}
use Rattle.pv_columns.specs.Frees.{AreRepeats, IsRepeatOf}
use Rattle.pv_columns.specs.Rows.{IsLayer}
use Rattle.pv_columns.specs.Tokens.{token_number}
use Rattle.pv_columns.proofs.Bits.{of_or, or_right}
use Rattle.pv_columns.proofs.ClosedMarks.{same_or_not}
use Rattle.pv_columns.proofs.EdgesAndSeeds.{by_parts}

pub or_only : (old : List ℕ) (column v c k : ℕ) → column < length old → HasIn (set old column (bit_or (get_or old column 0) v)) c k → HasIn old c k ⊎ ((c ≡ column) × (bit v k ≡ 1))
or_only old column v c k lt h = elim (same_or_not c column) [
  | inr z ↦ (let q : get_or old c 0 ≡ get_or (set old column (bit_or (get_or old column 0) v)) c 0 = rw get_or-set_other in inl (rw q h))
  | inl z ↦
      let P : ℕ → Type 0 = λ x. HasIn (set old column (bit_or (get_or old column 0) v)) x k in
      let m = subst P z h in
      let q = sym (get_or-set_same old column (bit_or (get_or old column 0) v) 0 lt) in
      let R : ℕ → Type 0 = λ x. HasIn old x k in
      elim (of_or (get_or old column 0) v k (rw q m)) [
        | inl a ↦ inl (subst R (sym z) a)
        | inr b ↦ inr (z, b)
      ]
]

pub within : (small big both k : ℕ) → both ≡ bit_or big small → both ≡ big → bit small k ≡ 1 → bit big k ≡ 1
within small big both k e z h = let P : ℕ → Type 0 = λ x. bit x k ≡ 1 in subst P (sym e ∙ z) (or_right big small k h)

module _ (rules : List ColumnRule) (live : List Bool) (m : ℕ) (layer : List ℕ) (is : IsLayer rules live m layer) where
  one : (c k : ℕ) (t : Token) (r : ColumnRule) → Contains rules r → k ≡ token_number t % 64 → token_number t / 64 ≡ m → IsRepeatOf m layer r c k → Repeats rules live t c
  one c k t r con z a (e, inl (u, s, y, b, d)) =
      let q : u ≡ t = by_parts u t m k b d a (sym z) in
      repeats_token r con e (s ∙ ap Some q) (y ∙ ap (λ (x : ℕ). x ∷ []) (sym e))
  one c k t r con z a (e, inr (d, s, y, h)) =
      let P : ℕ → Type 0 = λ x. HasIn layer d x in
      repeats_column d r con e s (y ∙ ap (λ (x : ℕ). d ∷ x ∷ []) (sym e)) ((is d t a).0 (subst P z h))

  pub are_repeats : (repeats : List ℕ) → ((c k : ℕ) → HasIn repeats c k → (r : ColumnRule) × Contains rules r × IsRepeatOf m layer r c k) → AreRepeats rules live m repeats
  are_repeats repeats sound c t a h = let s = sound c (token_number t % 64) h in one c (token_number t % 64) t s.0 s.1 refl a s.2
