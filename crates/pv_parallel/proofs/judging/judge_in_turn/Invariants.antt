use Rattle.std.proofs.Common.{Result, List, Vec, drop, ◌++◌}
use Rattle.std.specs.List.{AllZip}
use Rattle.std.specs.declared.alloc.Global.{Global}
use Rattle.pv_productive.specs.PlainForms.{dtd_of}
use Rattle.pv_tree.specs.declared.nodes.Verdict.{Verdict}
use Rattle.pv_reach.specs.declared.errors.ReachError.{ReachError}
use Rattle.pv_parallel.specs.Jobs.{JudgesJob}
use Rattle.pv_parallel.proofs.judging.judge_in_turn.Given as goal

abbrev pub invariant-loop-job : goal.invariant-loop-job
invariant-loop-job g l =
    let JudgesBehind = JudgesJob (dtd_of l.judge) l.root (g.G.Gate.entered l.gate) in
    (more : List (Result (Vec Verdict Global) ReachError)) →
    AllZip JudgesBehind (drop l.job-index l.jobs) more →
    AllZip JudgesBehind l.jobs (l.judged.items ++ more)
