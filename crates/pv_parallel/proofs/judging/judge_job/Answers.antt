use Rattle.std.proofs.Common.{◌≡◌}
use Rattle.std.proofs.lemmas.Result.{err_from_is_err_and}
use Rattle.pv_reach.specs.declared.errors.ReachError.TheVariants.{TooWide as too_wide}
use Rattle.pv_parallel.proofs.judging.judge_job.Goals as goal

pub returns-in_ok-judge_list-in-List : goal.returns-in_ok-judge_list-in-List
returns-in_ok-judge_list-in-List g c = record {
  verdicts = λ lists run.
      let is = rw c.in-List.is at run in
      rw is.1 (rw c.new-verdicts.ensures.items at (c.in_ok-judge_list-in-List.ensures.judged c.args.root.now is.0 is.3 (c.owner_in-owner.ensures is.0 is.2) is.4));
  wide = tt;
}

pub returns-in_ok-judge_nodes-in-Subtrees : goal.returns-in_ok-judge_nodes-in-Subtrees
returns-in_ok-judge_nodes-in-Subtrees g c = record {
  verdicts = λ lists run.
      let is = rw c.in-Subtrees.is at run in
      rw is.2 (rw c.new-verdicts.ensures.items at (c.in_ok-judge_nodes-in-Subtrees.ensures.judged c.args.root.now is.0 is.1));
  wide = tt;
}

pub returns-in_err-judge_nodes-in-Subtrees : goal.returns-in_err-judge_nodes-in-Subtrees
returns-in_err-judge_nodes-in-Subtrees g c =
    let p = err_from_is_err_and c.from_residual-in_err-judge_nodes-in-Subtrees.result c.from_residual-in_err-judge_nodes-in-Subtrees.ensures.1 in
    rw p.1 (record {
      verdicts = tt;
      wide = λ e lists run all.
          let q = p.2 in
          let wide : c.in_err-judge_nodes-in-Subtrees.field-0.0 ≡ too_wide = cc in
          let is = rw c.in-Subtrees.is at run in
          c.in_err-judge_nodes-in-Subtrees.ensures.wide wide is.0 is.1 (rw is.2 at all);
    })
