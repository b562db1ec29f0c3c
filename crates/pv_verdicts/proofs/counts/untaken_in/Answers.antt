use Rattle.std.proofs.Common.{arith, sym, true≢false, ◌∙◌}
use Rattle.pv_rematch.proofs.ChangedNumbers.{next_with, next_without}
use Rattle.pv_productive.specs.PlainForms.{dtd_of}
use Rattle.pv_verdicts.specs.TokenCounts.{IsTakenToken}
use Rattle.pv_verdicts.proofs.counts.untaken_in.Goals as goal
use Rattle.pv_verdicts.proofs.counts.untaken_in.Goals.{then-not-is_taken, else-not-is_taken}

pub loop-token-preserved : goal.loop-token-preserved
loop-token-preserved c =
    let P = IsTakenToken (dtd_of c.args.judge.now) c.args.id.0 in
    let word = c.args.word.now in
    let k = c.loop-token.token-index in
    let n = c.loop-token.count in
    let lt = c.loop-token-test.true in
    let so_far = c.loop-token.invariant.counted in
    elim c.if-not-is_taken.branch [
      | then-not-is_taken w ↦
          let no = w.if-not-is_taken.true in record {
            within = omega arith;
            counted = next_without P word k n _ lt so_far _ w.count-is
                (λ p. true≢false (sym (c.is_taken.ensures.1 p) ∙ no));
          }
      | else-not-is_taken w ↦ record {
        within = omega arith;
        counted = next_with P word k n _ lt so_far _ w.count-is
            (c.is_taken.ensures.0 w.if-not-is_taken.false);
      }
    ]
