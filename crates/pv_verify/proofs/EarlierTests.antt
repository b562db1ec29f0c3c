-- The tests before one, which a pack passes.
use Rattle.std.proofs.Common.{Bool, List, arith, false, true, ℕ, ◌<◌, ◌≡◌, ◌≤◌}
use Rattle.pv_dtd.specs.Plain.{PlainDtd}
use Rattle.pv_tree.specs.Plain.{PlainDoc}
use Rattle.pv_tree.specs.declared.nodes.Mark.{Mark}
use Rattle.pv_cert.specs.declared.packs.Pack.{Pack}
use Rattle.pv_verify.specs.Tests.{FailsFirst, PassesAllTests, PassesTest, rank}
use Rattle.pv_verify.specs.declared.answers.Why.{Why}
use Rattle.pv_verify.specs.declared.answers.Why.TheVariants as why

-- what is told to be so, and not so
pub not-so : {b : Bool} → b ≡ true → b ≡ false → ⊥
not-so is not = cc

module _ {M : Type 0} (g : PlainDtd) (root : List ℕ) (doc : PlainDoc M) (pack : Pack)
    (body : PlainDoc Mark) where
  abbrev P : Why → Type 0
  P test = PassesTest g root doc pack body test

  -- the tests below a place in their order
  below : (n : ℕ) → (0 < n → P why.Body) → (1 < n → P why.Marks) → (2 < n → P why.Kept) →
      (3 < n → P why.Validity) → (4 < n → P why.Closure) → (5 < n → P why.Totals) →
      (test : Why) → rank test < n → P test
  below n a b k v s t why.Body lt = a lt
  below n a b k v s t why.Marks lt = b lt
  below n a b k v s t why.Kept lt = k lt
  below n a b k v s t why.Validity lt = v lt
  below n a b k v s t why.Closure lt = s lt
  below n a b k v s t why.Totals lt = t lt

  all-pass : P why.Body → P why.Marks → P why.Kept → P why.Validity → P why.Closure → P why.Totals →
      (test : Why) → P test
  all-pass a b k v s t why.Body = a
  all-pass a b k v s t why.Marks = b
  all-pass a b k v s t why.Kept = k
  all-pass a b k v s t why.Validity = v
  all-pass a b k v s t why.Closure = s
  all-pass a b k v s t why.Totals = t

  none : {A : Type 0} (k n : ℕ) → n ≤ k → k < n → A
  none k n le lt = absurd (omega arith)

  first : (test : Why) → P why.Body → ((earlier : Why) → rank earlier < rank test → P earlier) →
      (P test → ⊥) → FailsFirst g root doc pack test
  first test is-body before fails =
      record { body = body; is_body = is-body; before = before; fails = fails }

  pub at-kept : P why.Body → P why.Marks → (P why.Kept → ⊥) → FailsFirst g root doc pack why.Kept
  at-kept a b not-kept =
      first why.Kept a (below 2 (λ lt. a) (λ lt. b) (none 2 2 (omega arith))
      (none 3 2 (omega arith)) (none 4 2 (omega arith)) (none 5 2 (omega arith))) not-kept

  pub at-validity : P why.Body → P why.Marks → P why.Kept → (P why.Validity → ⊥) →
      FailsFirst g root doc pack why.Validity
  at-validity a b k not-valid =
      first why.Validity a (below 3 (λ lt. a) (λ lt. b) (λ lt. k) (none 3 3 (omega arith))
      (none 4 3 (omega arith)) (none 5 3 (omega arith))) not-valid

  pub at-closure : P why.Body → P why.Marks → P why.Kept → P why.Validity → (P why.Closure → ⊥) →
      FailsFirst g root doc pack why.Closure
  at-closure a b k v not-closed =
      first why.Closure a (below 4 (λ lt. a) (λ lt. b) (λ lt. k) (λ lt. v) (none 4 4 (omega arith))
      (none 5 4 (omega arith))) not-closed

  pub at-totals : P why.Body → P why.Marks → P why.Kept → P why.Validity → P why.Closure →
      (P why.Totals → ⊥) → FailsFirst g root doc pack why.Totals
  at-totals a b k v s not-so =
      record {
        body = body;
        is_body = a;
        before = below 5 (λ lt. a) (λ lt. b) (λ lt. k) (λ lt. v)
            (λ lt. s) (none 5 5 (omega arith));
        fails = not-so;
      }

  pub accepted : P why.Body → P why.Marks → P why.Kept → P why.Validity → P why.Closure →
      P why.Totals → PassesAllTests g root doc pack
  accepted a b k v s t = record { body = body; passes = all-pass a b k v s t }
