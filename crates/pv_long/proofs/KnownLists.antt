-- Bounds that are remembered, and one more.
use Rattle.std.proofs.Common.{
  Bool,
  List,
  Some,
  [],
  arith,
  false,
  inl,
  inr,
  length,
  map,
  refl,
  slice_get,
}
use Rattle.std.proofs.Common.{suc, true, zero, ℕ, ◌++◌, ◌<◌, ◌∷◌, ◌≡◌, ◌⊎◌}
use Rattle.std.specs.Prelude.{if◌then◌else◌}
use Rattle.pv_dtd.specs.Plain.{PlainDtd}
use Rattle.pv_model.specs.PlainForms.{plain_token}
use Rattle.pv_long.specs.KnownBounds.{IsWordBound}
use Rattle.pv_long.specs.declared.known.KnownBound.{KnownBound}

-- an element of a list with one more at its end
one_of_both : {X : Type 0} (xs : List X) (y : X) (k : ℕ) (x : X) →
    slice_get (xs ++ (y ∷ [])) k ≡ Some x →
    (slice_get xs k ≡ Some x) ⊎ (x ≡ y)
one_of_both [] y zero x h = inr cc
one_of_both [] y (suc k) x h = absurd cc
one_of_both (z ∷ xs) y zero x h = inl h
one_of_both (z ∷ xs) y (suc k) x h = one_of_both xs y k x h

-- lists of one length are equal if their elements are, place by place
pub same_elements : {X : Type 0} (xs ys : List X) → length xs ≡ length ys →
    ((k : ℕ) → k < length xs → slice_get xs k ≡ slice_get ys k) → xs ≡ ys
same_elements [] [] n f = refl
same_elements [] (y ∷ ys) n f =
    absurd (let e : length (y ∷ ys) ≡ suc (length ys) = refl in omega (arith, n))
same_elements (x ∷ xs) [] n f =
    absurd (let e : length (x ∷ xs) ≡ suc (length xs) = refl in omega (arith, n))
same_elements (x ∷ xs) (y ∷ ys) n f =
    let first : Some x ≡ Some y = f 0 (omega arith) in
    let rest : xs ≡ ys = same_elements xs ys (omega (arith, n)) (λ k l. f (suc k) (omega arith)) in
    let e : x ≡ y = cc in
    rw (e, rest) refl

module _ (g : PlainDtd) where
  -- an entry tells a bound of its word
  abbrev pub IsRight : KnownBound → Type 0
  IsRight e = IsWordBound g e.of (map plain_token e.word) e.least

  -- each of these entries does
  abbrev pub AreRight : List KnownBound → Type 0
  AreRight entries = (k : ℕ) (e : KnownBound) → slice_get entries k ≡ Some e → IsRight e

  right_one_more : (old new : List KnownBound) (e : KnownBound) → new ≡ old ++ e ∷ [] →
      AreRight old →
      IsRight e → AreRight new
  right_one_more old new e is all one k x h =
      elim (one_of_both old e k x (rw is at h))
      [ inl at_old ↦ all k x at_old | inr same ↦ rw same one ]

  -- after a push, which there may be no memory for
  pub right_pushed : (old new : List KnownBound) (e : KnownBound) (b : Bool) →
      new ≡ (if b then old ++ e ∷ [] else old) → AreRight old → IsRight e → AreRight new
  right_pushed old new e true is all one = right_one_more old new e is all one
  right_pushed old new e false is all one = rw is all
