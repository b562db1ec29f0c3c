use Rattle.std.proofs.Common.{arith, sym, true≢false, ◌∙◌}
use Rattle.pv_rematch.proofs.ChangedNumbers.{next_with, next_without}
use Rattle.pv_productive.specs.PlainForms.{dtd_of}
use Rattle.pv_missing.specs.LiveWords.{IsProductiveToken}
use Rattle.pv_verdicts.proofs.counts.unproductive_in.Goals as goal
use Rattle.pv_verdicts.proofs.counts.unproductive_in.Goals.{then-not-is_productive}
use Rattle.pv_verdicts.proofs.counts.unproductive_in.Goals.{else-not-is_productive}

pub loop-token-preserved : goal.loop-token-preserved
loop-token-preserved c =
    let P = IsProductiveToken (dtd_of c.args.judge.now) in
    let word = c.args.word.now in
    let k = c.loop-token.token-index in
    let n = c.loop-token.count in
    let lt = c.loop-token-test.true in
    let so_far = c.loop-token.invariant.counted in
    elim c.if-not-is_productive.branch [
      | then-not-is_productive w ↦
          let no = w.if-not-is_productive.true in record {
            within = omega arith;
            counted = next_without P word k n _ lt so_far _ w.count-is
                (λ p. true≢false (sym (c.is_productive.ensures.1 p) ∙ no));
          }
      | else-not-is_productive w ↦ record {
        within = omega arith;
        counted = next_with P word k n _ lt so_far _ w.count-is
            (c.is_productive.ensures.0 w.if-not-is_productive.false);
      }
    ]
