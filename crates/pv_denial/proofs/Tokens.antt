-- What holds at each place of a word where a token stands, found place by place.
use Rattle.std.proofs.Common.{List, Some, [], arith, inl, inr, length, map, refl, slice_get, subst, suc, sym, zero, ℕ, ◌∷◌, ◌<◌, ◌≡◌, ◌≤◌}
use Rattle.std.proofs.lemmas.Bool.{cases_lt}
use Rattle.std.proofs.lemmas.List.{length-map}
use Rattle.std.proofs.lemmas.Option.{slice_get_within}
use Rattle.pv_model.specs.Plain.{PlainToken}
use Rattle.pv_model.specs.PlainForms.{plain_token}
use Rattle.pv_model.specs.declared.models.Token.{Token}

pub plain_at : (word : List Token) (i : ℕ) (t : Token) → slice_get word i ≡ Some t → slice_get (map plain_token word) i ≡ Some (plain_token t)
plain_at [] i t e = absurd cc
plain_at (u ∷ us) zero t e = let i : u ≡ t = cc in rw i refl
plain_at (u ∷ us) (suc i) t e = plain_at us i t e

module _ (p : PlainToken) (P : ℕ → Type 0) (word : List Token) where
  -- it holds before place n
  abbrev pub Before : ℕ → Type 0
  Before n = (i : ℕ) → i < n → slice_get (map plain_token word) i ≡ Some p → P i

  pub before_more : (n : ℕ) (t : Token) → slice_get word n ≡ Some t → Before n → (plain_token t ≡ p → P n) → (k : ℕ) → k ≡ suc n → Before k
  before_more n t here before holds k z i lt e = elim (cases_lt i n) [
    | inl less ↦ before i less e
    | inr ge ↦ (let y : i ≡ n = omega arith in let Q : ℕ → Type 0 = λ v. slice_get (map plain_token word) v ≡ Some p in
        let a = subst Q y e in let b = plain_at word n t here in subst P (sym y) (holds (same n t a b)))
  ]
    where
      same : (n : ℕ) (t : Token) → slice_get (map plain_token word) n ≡ Some p → slice_get (map plain_token word) n ≡ Some (plain_token t) → plain_token t ≡ p
      same n t a b = cc

  pub before_all : (n : ℕ) → length word ≤ n → Before n → (i : ℕ) → slice_get (map plain_token word) i ≡ Some p → P i
  before_all n le before i e = before i (let a = slice_get_within (map plain_token word) i p e in let b = length_map in omega arith) e
    where
      length_map : length (map plain_token word) ≡ length word
      length_map = length-map word plain_token
