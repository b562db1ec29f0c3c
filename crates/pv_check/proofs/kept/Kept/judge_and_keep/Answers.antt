use Rattle.pv_productive.specs.PlainForms.{dtd_of}
use Rattle.pv_check.proofs.kept.Kept.judge_and_keep.Goals as goal

pub returns-then-is_worth-clause-kept : goal.returns-then-is_worth-clause-kept
returns-then-is_worth-clause-kept c =
    let judged = rw c.in-Some.is at c.in_ok-judged.ensures.judges in
    record {
      plan = c.plan_and_judge_word.ensures.planned;
      known = c.keep.ensures c.args.widths (dtd_of c.args.judge.now) c.requires.known judged;
    }
