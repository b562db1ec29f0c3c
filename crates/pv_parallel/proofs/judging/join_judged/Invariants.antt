use Rattle.std.proofs.Common.{Err, List, drop, ◌++◌, ◌≢◌}
use Rattle.std.specs.List.{AllByRecursion}
use Rattle.pv_tree.specs.declared.nodes.Verdict.{Verdict}
use Rattle.pv_reach.specs.declared.errors.ReachError.TheVariants.{TooWide as too_wide}
use Rattle.pv_parallel.specs.Jobs.{AreJoined}
use Rattle.pv_parallel.proofs.judging.join_judged.Given as goal

abbrev pub invariant-loop-one : goal.invariant-loop-one
invariant-loop-one l = record {
  so_far : (last : List Verdict) → AreJoined (drop l.one-index l.judged) last → AreJoined l.judged (l.verdicts.items ++ last);
  narrow : AllByRecursion (λ one. one ≢ Err too_wide) (drop l.one-index l.judged);
}
