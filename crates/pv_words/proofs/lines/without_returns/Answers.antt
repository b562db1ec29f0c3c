use Rattle.std.proofs.Common.{◌≡◌, ◌-◌, suc, take, ap, sym, ◌∙◌, arith}
use Rattle.pv_words.specs.Lines.{without_returns}
use Rattle.pv_words.proofs.Returns.{without_returns-return, without_returns-other}
use Rattle.pv_words.proofs.lines.without_returns.Goals as goal
use Rattle.pv_words.proofs.lines.without_returns.Goals.{then-loop-end-test+else-line-end-eq13, else-loop-end-test}

pub loop-end-preserved : goal.loop-end-preserved
loop-end-preserved c =
    let last : suc (c.loop-end.end - 1) ≡ c.loop-end.end = omega arith in
    let dropped = without_returns-return c.args.line.now (c.loop-end.end - 1) (omega arith) c.if-line-end-eq13.true in
    (omega arith, dropped ∙ ap (λ n. without_returns (take n c.args.line.now)) last ∙ c.loop-end.invariant.1)

pub returns : goal.returns
returns c =
    elim c.loop-end-test.branch [
      | then-loop-end-test+else-line-end-eq13 w ↦
          let last : suc (c.loop-end.end - 1) ≡ c.loop-end.end = omega arith in
          let kept = without_returns-other c.args.line.now (c.loop-end.end - 1) (omega arith) w.if-line-end-eq13.false in
          sym (rw last at kept) ∙ c.loop-end.invariant.1
      | else-loop-end-test w ↦
          let none : c.loop-end.end ≡ 0 = omega arith in
          rw none (rw none at c.loop-end.invariant.1)
    ]
