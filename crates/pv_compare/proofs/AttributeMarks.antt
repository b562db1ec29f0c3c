-- Marks by whether elements have attribute bytes.
use Rattle.std.proofs.Common.{List, Some, [], ap, length, slice_get, suc, true, zero, ℕ, ◌==◌, ◌∷◌, ◌≡◌}
use Rattle.std.proofs.lemmas.Bool.{eqb-true}
use Rattle.std.proofs.lemmas.List.{nil_from_length}
use Rattle.pv_dtd.specs.Hedge.{Hedge}
use Rattle.pv_compare.specs.Kept.{AreFlagged, AreMarks, are_plain, attributes_of}

true-at : (attributes : List (List ℕ)) (m : ℕ) → slice_get (are_plain attributes) m ≡ Some true → slice_get attributes m ≡ Some []
true-at [] m e = absurd (cc)
true-at (t ∷ attributes) zero e = let is : (length t == 0) ≡ true = cc in ap Some (nil_from_length t (eqb-true (length t) 0 is))
true-at (t ∷ attributes) (suc m) e = true-at attributes m e

nothing-at : (attributes : List (List ℕ)) (m : ℕ) → slice_get attributes m ≡ Some [] → slice_get (are_plain attributes) m ≡ Some true
nothing-at [] m e = absurd (cc)
nothing-at (t ∷ attributes) zero e = let none : t ≡ [] = cc in ap (λ l. Some (length l == 0)) none
nothing-at (t ∷ attributes) (suc m) e = nothing-at attributes m e

module _ (marks : List ℕ) (body : Hedge) where
  pub to-marks : AreFlagged marks (are_plain (attributes_of body)) → AreMarks marks body
  to-marks f = record { ascend = f.ascend; plain = λ k d lt. true-at (attributes_of body) _ (f.each k d lt) }

  pub from-marks : AreMarks marks body → AreFlagged marks (are_plain (attributes_of body))
  from-marks a = record { ascend = a.ascend; each = λ k d lt. nothing-at (attributes_of body) _ (a.plain k d lt) }
