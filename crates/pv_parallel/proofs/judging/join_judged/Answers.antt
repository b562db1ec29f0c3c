use Rattle.std.proofs.Common.{[], ap, append-nil, arith, drop, refl, ◌++◌, ◌∙◌, ◌≡◌}
use Rattle.std.proofs.lemmas.List.{drop_all}
use Rattle.pv_parallel.proofs.Judgements.{joined_next, narrow_next}
use Rattle.pv_parallel.proofs.judging.join_judged.Goals as goal

pub loop-one-preserved : goal.loop-one-preserved
loop-one-preserved c =
    let vs = c.in_ok-verdicts_in.ensures in
    record {
      so_far = λ last more. joined_next c.args.judged.now c.loop-one.one-index c.one-item.result
          vs.0 c.loop-one.verdicts.items c.extend_from_slice.new.self.items last (omega arith)
          c.one-item.is vs.1 (c.in_ok-extend_from_slice.ensures.items
          ∙ ap (λ l. c.loop-one.verdicts.items ++ l) vs.2) c.loop-one.invariant.so_far more;
      narrow = narrow_next c.args.judged.now c.loop-one.one-index c.one-item.result (omega arith) c.one-item.is c.loop-one.invariant.narrow;
    }

pub returns : goal.returns
returns c =
    let none : drop c.loop-one.one-index c.args.judged.now ≡ [] = drop_all c.loop-one.one-index c.args.judged.now (omega arith) in
    rw append-nil at (c.loop-one.invariant.so_far [] (rw none refl))
