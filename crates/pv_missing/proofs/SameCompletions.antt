-- Hedges with the same completions have the same least numbers.
use Rattle.std.proofs.Common.{List, ap, arith, suc, ℕ, ◌+◌, ◌↔◌, ◌∙◌, ◌≡◌}
use Rattle.pv_dtd.specs.Plain.{PlainDtd}
use Rattle.pv_dtd.specs.Hedge.{Hedge, elements}
use Rattle.pv_missing.specs.Completions.{HasCompletion, IsLeast}
use Rattle.pv_missing.specs.DocumentLaws.{SomeNumber}
use Rattle.pv_missing.specs.Extensions.{Extends, both_done, new_element, same_element, same_leaf}
use Rattle.pv_missing.specs.SameMissing.{SameMissing}
use Rattle.pv_missing.proofs.Hedges.{elements-join}

-- an extension has some number of new elements
pub extends_count : (h h' : Hedge) → Extends h h' → (n : ℕ) × (elements h' ≡ n + elements h)
extends_count h h' both_done = (0, omega arith)
extends_count h h' (same_leaf l r r' e) = extends_count r r' e
extends_count h h' (same_element x t k k' r r' e f) = let p = extends_count k k' e in let q = extends_count r r' f in (p.0 + q.0, omega (arith, p.1, q.1))
extends_count h h' (new_element x _ h1 h2 k' r' j e f) =
    let p = extends_count h1 k' e in let q = extends_count h2 r' f in let s = ap elements j ∙ elements-join h1 h2 in
    (suc (p.0 + q.0), omega (arith, p.1, q.1))

pub some_number : SomeNumber
some_number g root h = (
  (λ p. let c = extends_count h p.hedge p.extends in (c.0, record { hedge = p.hedge; extends = p.extends; valid = p.valid; inserted = c.1 })),
  (λ p. record { hedge = p.1.hedge; extends = p.1.extends; valid = p.1.valid }),
)

least_to : (g : PlainDtd) (root : List ℕ) (h h2 : Hedge) (n : ℕ) → ((m : ℕ) → HasCompletion g root m h → HasCompletion g root m h2) →
    ((m : ℕ) → HasCompletion g root m h2 → HasCompletion g root m h) → IsLeast g root n h → IsLeast g root n h2
least_to g root h h2 n to from l = record { completes = to n l.completes; least = λ m c. l.least m (from m c) }

pub same_missing : (g : PlainDtd) (root : List ℕ) (h h2 : Hedge) → ((n : ℕ) → HasCompletion g root n h ↔ HasCompletion g root n h2) → SameMissing g root h h2
same_missing g root h h2 f = record {
  same_validity = (
    (λ p. let c = (some_number g root h).0 p in (some_number g root h2).1 (c.0, (f c.0).0 c.1)),
    (λ p. let c = (some_number g root h2).0 p in (some_number g root h).1 (c.0, (f c.0).1 c.1)),
  );
  same_least = λ n. (
    least_to g root h h2 n (λ m c. (f m).0 c) (λ m c. (f m).1 c),
    least_to g root h2 h n (λ m c. (f m).1 c) (λ m c. (f m).0 c),
  );
}
