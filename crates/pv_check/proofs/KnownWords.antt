-- Verdicts that are remembered, and one more; words that are the same.
use Rattle.std.proofs.Common.{Bool, List, Some, [], arith, false, inl, inr, length, refl, true}
use Rattle.std.proofs.Common.{slice_get, suc, zero, ℕ, ◌++◌, ◌<◌, ◌∷◌, ◌≡◌, ◌⊎◌}
use Rattle.std.specs.Prelude.{if◌then◌else◌}
use Rattle.pv_dtd.specs.Plain.{PlainDtd}
use Rattle.pv_check.specs.KnownVerdicts.{IsKnownVerdict}
use Rattle.pv_check.specs.declared.known.KnownVerdict.{KnownVerdict}
use Rattle.pv_check.specs.declared.widths.Widths.{Widths}

-- an element of a list with one more at its end
one_of_both : {X : Type 0} (xs : List X) (y : X) (k : ℕ) (x : X) →
    slice_get (xs ++ (y ∷ [])) k ≡ Some x → (slice_get xs k ≡ Some x) ⊎ (x ≡ y)
one_of_both [] y zero x h = inr cc
one_of_both [] y (suc k) x h = absurd cc
one_of_both (z ∷ xs) y zero x h = inl h
one_of_both (z ∷ xs) y (suc k) x h = one_of_both xs y k x h

-- lists of one length are equal if their elements are, place by place
pub same_elements : {X : Type 0} (xs ys : List X) → length xs ≡ length ys →
    ((k : ℕ) → k < length xs → slice_get xs k ≡ slice_get ys k) → xs ≡ ys
same_elements [] [] n f = refl
same_elements [] (y ∷ ys) n f = absurd
    (let e : length (y ∷ ys) ≡ suc (length ys) = refl in omega (arith, n))
same_elements (x ∷ xs) [] n f = absurd
    (let e : length (x ∷ xs) ≡ suc (length xs) = refl in omega (arith, n))
same_elements (x ∷ xs) (y ∷ ys) n f =
    let first : Some x ≡ Some y = f 0 (omega arith) in
    let rest : xs ≡ ys = same_elements xs ys (omega (arith, n)) (λ k l. f (suc k) (omega arith)) in
    let e : x ≡ y = cc in
    rw (e, rest) refl

-- each of these entries is right
abbrev pub AreRight : Widths → PlainDtd → List KnownVerdict → Type 0
AreRight s g entries = (k : ℕ) (e : KnownVerdict) → slice_get entries k ≡ Some e →
    IsKnownVerdict s g e

known_one_more : (s : Widths) (g : PlainDtd) (old new : List KnownVerdict) (e : KnownVerdict) →
    new ≡ old ++ e ∷ [] → AreRight s g old → IsKnownVerdict s g e → AreRight s g new
known_one_more s g old new e is all one k x h =
    elim (one_of_both old e k x (rw is at h)) [
      | inl at_old ↦ all k x at_old
      | inr same ↦ rw same one
    ]

-- after a push, which there may be no memory for
pub known_pushed : (s : Widths) (g : PlainDtd) (old new : List KnownVerdict) (e : KnownVerdict)
    (b : Bool) → new ≡ (if b then old ++ e ∷ [] else old) → AreRight s g old →
    IsKnownVerdict s g e → AreRight s g new
known_pushed s g old new e true is all one = known_one_more s g old new e is all one
known_pushed s g old new e false is all one = rw is all
