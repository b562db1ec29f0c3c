use Rattle.std.proofs.Common.{[], append-nil, arith, drop, ◌≡◌}
use Rattle.std.proofs.lemmas.List.{drop_all}
use Rattle.pv_productive.specs.PlainForms.{dtd_of}
use Rattle.pv_parallel.specs.Jobs.{JudgesJob}
use Rattle.pv_parallel.proofs.Judgements.{in_turn_next}
use Rattle.pv_parallel.proofs.judging.judge_in_turn.Goals as goal

pub loop-job-preserved : goal.loop-job-preserved
loop-job-preserved g c = λ more rest.
    in_turn_next (JudgesJob (dtd_of c.args.judge.now) c.args.root.now
    (g.G.Gate.entered c.args.gate.now)) c.args.jobs.now c.loop-job.job-index c.job-item.result
    c.judge_job.result c.loop-job.judged.items c.push.new.self.items more (omega arith)
    c.job-item.is c.judge_job.ensures c.in_ok-push.ensures.items c.loop-job.invariant rest

pub returns : goal.returns
returns g c =
    let none : drop c.loop-job.job-index c.args.jobs.now ≡ [] = drop_all c.loop-job.job-index c.args.jobs.now (omega arith) in
    rw append-nil at (c.loop-job.invariant [] (rw none tt))
