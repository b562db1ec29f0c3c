-- How the first name of a joined word falls to one of its two parts.
use Rattle.std.proofs.Common.{◌≡◌, ℕ, Bool, true, false, ◌||◌, ◌⊎◌, inl, inr, List, [], ◌∷◌, ◌++◌, IsTrue, sym, ◌∙◌, refl, subst}
use Rattle.pv_model.specs.Models.{Rounds, no_round, round}

pub or-cases : (a b : Bool) → IsTrue (a || b) → IsTrue a ⊎ IsTrue b
or-cases true b h = inl refl
or-cases false b h = inr h

pub or-left : (a b : Bool) → IsTrue a → IsTrue (a || b)
or-left true b h = refl
or-left false b h = absurd cc

pub or-right : (a b : Bool) → IsTrue b → IsTrue (a || b)
or-right true b h = refl
or-right false b h = h

-- the empty word is joined of empty words
pub joined-none : (A B : List ℕ → Type 0) (u v : List ℕ) → [] ≡ u ++ v → A u → B v → A [] × B []
joined-none A B [] v e a b = (a, subst B (sym e) b)
joined-none A B (x ∷ u) v e a b = absurd cc

-- a word that begins with y
pub joined-first : (A B : List ℕ → Type 0) (u v : List ℕ) (y : ℕ) (w : List ℕ) → y ∷ w ≡ u ++ v → A u → B v →
    (A [] × B (y ∷ w)) ⊎ ((x : List ℕ) × (w ≡ x ++ v) × A (y ∷ x))
joined-first A B [] v y w e a b = inl (a, subst B (sym e) b)
joined-first A B (x ∷ u) v y w e a b =
    let same : x ≡ y = cc in
    let rest : w ≡ u ++ v = cc in
    let P : ℕ → Type 0 = λ z. A (z ∷ u) in
    inr (u, rest, subst P same a)

abbrev pub FirstRound : (List ℕ → Type 0) → ℕ → List ℕ → Type 0
FirstRound R y w = (u : List ℕ) × (v : List ℕ) × (w ≡ u ++ v) × R (y ∷ u) × Rounds R v

module _ (R : List ℕ → Type 0) (y : ℕ) (w : List ℕ) where
  skip_empty : (u v : List ℕ) → y ∷ w ≡ u ++ v → R u → Rounds R v → (v ≡ y ∷ w → FirstRound R y w) → FirstRound R y w
  skip_empty [] v e a r next = next (sym e)
  skip_empty (x ∷ u) v e a r next =
      let same : x ≡ y = cc in
      let rest : w ≡ u ++ v = cc in
      let P : ℕ → Type 0 = λ z. R (z ∷ u) in
      (u, v, rest, subst P same a, r)

  -- the first round that is not empty
  pub first_round : (z : List ℕ) → Rounds R z → z ≡ y ∷ w → FirstRound R y w
  first_round z no_round e = absurd cc
  first_round z (round u v _ q a r) e = skip_empty u v (sym e ∙ q) a r (λ h. first_round v r h)
