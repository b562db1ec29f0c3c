-- The weights of the lists add up to the least number.
use Rattle.std.specs.Prelude.{min}
use Rattle.std.proofs.Common.{List, [], arith, inl, inr, suc, ℕ, ◌<◌, ◌∷◌, ◌≡◌, ◌≤◌, ◌⊎◌}
use Rattle.std.proofs.lemmas.Bool.{cases_lt}
use Rattle.pv_dtd.specs.Plain.{PlainDtd}
use Rattle.pv_tree.specs.Lists.{Listed}
use Rattle.pv_tree.specs.Plain.{PlainDoc}
use Rattle.pv_tree.specs.View.{view}
use Rattle.pv_missing.specs.Completions.{HasCompletion}
use Rattle.pv_rules.specs.Derivations.{heaviest}
use Rattle.pv_missing.specs.DocumentLaws.{BoundsAddUp, WeightsAddUp}
use Rattle.pv_dtd.specs.Proper.{IsProperDtd}
use Rattle.pv_missing.specs.Proper.{IsProperDoc}
use Rattle.pv_missing.specs.MissingNumbers.{MissInAll}
use Rattle.pv_missing.specs.ListWeights.{BoundInAll, SumIsLeast, WeighInAll}
use Rattle.pv_missing.proofs.DocLists.{numbers_add_up, root_lists}
use Rattle.pv_missing.proofs.ListDerivations.{weight_is_least}
use Rattle.pv_missing.proofs.SameCompletions.{some_number}

cut_of : (n s : ℕ) → s ≤ n → (s < heaviest → n ≤ s) → (suc s ≤ heaviest) ⊎ (heaviest ≤ s) → min heaviest n ≡ min heaviest s
cut_of n s le up (inl few) = let e = up (omega arith) in omega arith
cut_of n s le up (inr many) = omega arith

module _ {M : Type 0} (g : PlainDtd) (proper : IsProperDtd g) (root : List ℕ) where
  all_below : (lists : List (Listed M)) (n s : ℕ) → MissInAll g root lists n → WeighInAll g root lists s → s ≤ n
  all_below [] n s p q = omega (arith, q)
  all_below (list ∷ lists) n s (a, b, e, p, r) (c, d, f, q, t) =
      let one = (weight_is_least M g root list a c proper p q).0 in let two = all_below lists b d r t in omega (arith, e, f)

  all_reached : (lists : List (Listed M)) (n s : ℕ) → MissInAll g root lists n → WeighInAll g root lists s → s < heaviest → MissInAll g root lists s
  all_reached [] n s p q few = q
  all_reached (list ∷ lists) n s (a, b, e, p, r) (c, d, f, q, t) few =
      (c, d, f, (weight_is_least M g root list a c proper p q).1 (omega (arith, f)), all_reached lists b d r t (omega (arith, f)))

all_bound : {M : Type 0} (g : PlainDtd) (root : List ℕ) (lists : List (Listed M)) (n s : ℕ) → MissInAll g root lists n → BoundInAll g root lists s → s ≤ n
all_bound g root [] n s p q = omega (arith, q)
all_bound g root (list ∷ lists) n s (a, b, e, p, r) (c, d, f, q, t) =
    let one = q a p in let two = all_bound g root lists b d r t in omega (arith, e, f)

pub bounds_add_up : (M : Type 0) → BoundsAddUp M
bounds_add_up M g root doc s proper p b n c = all_bound g root (root_lists doc.root) n s ((numbers_add_up M g root doc n proper p).0 c) b

sums : {M : Type 0} (g : PlainDtd) (root : List ℕ) (doc : PlainDoc M) (n s : ℕ) → IsProperDtd g → IsProperDoc doc → HasCompletion g root n (view doc.root) →
    WeighInAll g root (root_lists doc.root) s → SumIsLeast g root s (view doc.root)
sums {M = M} g root doc n s proper p c w = record {
  below = below;
  reached = reached;
  cut = λ m i. cut_of m s (below m i.completes) (λ few. i.least s (reached few)) (cases_lt s heaviest);
}
  where
    below : (m : ℕ) → HasCompletion g root m (view doc.root) → s ≤ m
    below m d = all_below g proper root (root_lists doc.root) m s ((numbers_add_up M g root doc m proper p).0 d) w

    reached : s < heaviest → HasCompletion g root s (view doc.root)
    reached few = (numbers_add_up M g root doc s proper p).1 (all_reached g proper root (root_lists doc.root) n s ((numbers_add_up M g root doc n proper p).0 c) w few)

pub weights_add_up : (M : Type 0) → WeightsAddUp M
weights_add_up M g root doc s proper p v w = let c = (some_number g root (view doc.root)).0 v in sums g root doc c.0 s proper p c.1 w
