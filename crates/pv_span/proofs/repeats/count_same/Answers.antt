use Rattle.std.proofs.Common.{Some, ap, arith, inl, inr, sym, ◌+◌, ◌∙◌, ◌≡◌}
use Rattle.std.proofs.lemmas.Bool.{cases_lt}
use Rattle.std.proofs.lemmas.Option.{slice_get-get_or}
use Rattle.pv_span.proofs.repeats.count_same.Goals as goal

pub loop-count-init : goal.loop-count-init
loop-count-init c = λ k l. absurd (omega arith)

pub loop-count-preserved : goal.loop-count-preserved
loop-count-preserved c = λ k lt.
    let n = c.loop-count.count in
    let end = c.loop-count-test.true in
    let from = c.requires.from in
    let again = c.requires.again in
    let word = c.args.word.now in
    elim (cases_lt k n) [
      | inl less ↦ c.loop-count.invariant k less
      | inr more ↦ (
          let e : k ≡ n = omega arith in
          let same = c.is_same_token.ensures c.if-not-is_same_token.false in
          rw e (slice_get-get_or word (c.args.from + n) _ (omega arith) ∙ ap Some same ∙
          sym (slice_get-get_or word (c.args.again + n) _ (omega arith)))
          )
    ]
