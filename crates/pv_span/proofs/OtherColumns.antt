-- Columns whose rules go over to one other column over the same span.
use Rattle.std.proofs.Common.{List, Some, arith, inl, inr, slice_get, suc, ℕ, ◌<◌, ◌≡◌}
use Rattle.pv_model.specs.Plain.{PlainToken, named}
use Rattle.pv_layout.specs.Forms.{of_element, of_none, of_nothing, of_one, of_opt}
use Rattle.pv_span.specs.Waits.{IsToldByOthers}

module _ (w : List PlainToken) (i j : ℕ) where
  pub never_told : IsToldByOthers w i j of_none
  never_told c n xs r = absurd r

  pub element_told : (x d : ℕ) → (slice_get w i ≡ Some (named x) → j ≡ suc i → ⊥) →
      IsToldByOthers w i j (of_element x d)
  element_told x d none c n xs (inl (g, e, z, q)) = absurd (none g e)
  element_told x d none c n xs (inr (s, z, q)) = (d, q)

  pub nothing_told : i < j → IsToldByOthers w i j of_nothing
  nothing_told l c n xs (e, s, z, q) = absurd (omega arith)

  pub one_told : (ds : List ℕ) → IsToldByOthers w i j (of_one ds)
  one_told ds c n xs (d, o, (s, z, q)) = (d, q)

  pub opt_told : (d : ℕ) → i < j → IsToldByOthers w i j (of_opt d)
  opt_told d l c n xs (inl (e, s, z, q)) = absurd (omega arith)
  opt_told d l c n xs (inr (s, z, q)) = (d, q)
