use Rattle.std.proofs.Common.{Some, ap, arith, inl, inr, sym, ◌∙◌, ◌≡◌}
use Rattle.std.proofs.lemmas.Bool.{cases_lt}
use Rattle.std.proofs.lemmas.Option.{slice_get-get_or}
use Rattle.pv_check.proofs.KnownWords.{same_elements}
use Rattle.pv_check.proofs.known.are_same.Goals as goal

pub loop-number-preserved : goal.loop-number-preserved
loop-number-preserved c = λ k lt.
    let n = c.loop-number.number in
    let long = c.if-word-other.false in
    let inside = c.loop-number-test.true in
    elim (cases_lt k n) [
      | inl less ↦ c.loop-number.invariant k less
      | inr more ↦ (
          let e : k ≡ n = omega arith in
          let same = c.is_same_token.ensures c.if-not-is_same_token.false in
          rw e (slice_get-get_or c.args.word.now n _ inside ∙ ap Some same
          ∙ sym (slice_get-get_or c.args.other.now n _ (omega arith)))
          )
    ]

pub returns : goal.returns
returns c = λ _. same_elements c.args.word.now c.args.other.now c.if-word-other.false
    (λ k lt. c.loop-number.invariant k (let end = c.loop-number-test.false in omega arith))
