-- Possible lists that are too wide for weights.
use Rattle.std.proofs.lemmas.List.{length-map}
use Rattle.std.proofs.Common.{ap, map, sym, ◌∙◌, Bool, List, ◌*◌, ◌/◌, arith, drop, false, length, refl, suc, true, ℕ, ◌≤◌, ◌≡◌}
use Rattle.std.proofs.Math.Nat.{mul-le-mul, mul-le-mul_right}
use Rattle.pv_model.specs.Plain.{PlainToken}
use Rattle.pv_model.specs.PlainForms.{plain_token}
use Rattle.pv_model.specs.declared.models.Token.{Token}
use Rattle.pv_dtd.specs.Plain.{PlainDtd}
use Rattle.pv_tree.specs.Lists.{Listed}
use Rattle.pv_tree.specs.Search.{Tells}
use Rattle.pv_tree.specs.declared.nodes.Mark.{Mark}
use Rattle.pv_tree.specs.declared.nodes.Verdict.{Verdict}
use Rattle.pv_missing.specs.Widths.{FitsWeights, IsListForWeights, columns_of}
use Rattle.pv_complete.specs.Loads.{UsesVerdict}
use Rattle.pv_complete.specs.NeededElements.{CanWeigh}
use Rattle.pv_complete.specs.WideLists.{HaveVerdictsFrom}
use Rattle.pv_complete.proofs.WeightSums.{adds_other, stops_here}

-- fewer tokens are no wider
pub fits_less : (g : PlainDtd) (m n : ℕ) → m ≤ n → FitsWeights g n → FitsWeights g m
fits_less g m n h fits =
    let spans : suc m * suc (suc m) ≤ suc n * suc (suc n) = mul-le-mul {n₁ = suc m} {m₁ = suc (suc m)} {n₂ = suc n} {m₂ = suc (suc n)} (omega arith) (omega arith) in
    let halves : suc m * suc (suc m) / 2 ≤ suc n * suc (suc n) / 2 = omega (arith, spans) in
    let less_in_all = mul-le-mul_right (columns_of g) halves in
    omega (arith, less_in_all, fits)

module _ (g : PlainDtd) (vs : List Verdict) (list : Listed Mark) (old new : ℕ) where
  -- what is told of a list that isn't Possible
  pub tells_other : UsesVerdict vs old new false → Tells (CanWeigh g) (HaveVerdictsFrom g vs old) (HaveVerdictsFrom g vs new) list true
  tells_other uses root more are =
      let a = adds_other g root vs list (record { used = old; total = 0 }) (record { used = new; total = 0 }) uses refl (omega arith) more are in
      (a.weighed, a.left)

  -- what is told of a Possible list, by whether it isn't too wide
  pub tells_possible : (narrow : Bool) → UsesVerdict vs old new true → ((narrow ≡ true → IsListForWeights g list) × (IsListForWeights g list → narrow ≡ true)) →
      Tells (CanWeigh g) (HaveVerdictsFrom g vs old) (HaveVerdictsFrom g vs new) list narrow
  tells_possible true next is = λ root more are.
      let tail : are.1 ≡ drop new vs = let e = are.2 in cc (e, next) in (((λ p. is.0 refl), tt), rw tail at are.4)
  tells_possible false next is = λ root more are.
      stops_here g root vs list (drop new vs) (record { used = old; total = 0 }) next (λ fits. let t = is.1 fits in absurd cc) more are

-- tokens are as many as the plain ones
pub long_as : (tokens : List Token) (word : List PlainToken) → map plain_token tokens ≡ word → length tokens ≡ length word
long_as tokens word e = let n : length (map plain_token tokens) ≡ length tokens = simp length-map in sym n ∙ ap length e
