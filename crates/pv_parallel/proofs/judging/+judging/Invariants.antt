use Rattle.std.proofs.Common.{List, drop, ℕ, ◌+◌}
use Rattle.std.specs.List.{AllByRecursion}
use Rattle.pv_productive.specs.PlainForms.{dtd_of}
use Rattle.pv_tree.specs.Lists.{lists_from}
use Rattle.pv_tree.specs.PlainForms.{forest}
use Rattle.pv_tree.specs.declared.nodes.Verdict.{Verdict}
use Rattle.pv_missing.specs.Widths.{IsListForVerdict}
use Rattle.pv_parallel.specs.Jobs.{JudgesBehind}
use Rattle.pv_parallel.proofs.judging.+judging.Given as goal

-- what judges the rest after those so far, judges all
abbrev pub invariant-judge_nodes-loop-node : goal.invariant-judge_nodes-loop-node
invariant-judge_nodes-loop-node g l = record {
  judges : (root path : List ℕ) (i : ℕ) (last : List Verdict) → JudgesBehind (dtd_of l.judge) root
      (g.G.Gate.entered l.gate) l.first (lists_from path (i + l.node-index)
      (forest (drop l.node-index l.nodes))) l.verdicts.items last →
      JudgesBehind (dtd_of l.judge) root (g.G.Gate.entered l.gate) l.first (lists_from path i (forest l.nodes)) l.fn.verdicts.items last;
  fits : (path : List ℕ) (i : ℕ) → AllByRecursion (IsListForVerdict (dtd_of l.judge)) (lists_from path i (forest l.nodes)) →
      AllByRecursion (IsListForVerdict (dtd_of l.judge)) (lists_from path (i + l.node-index) (forest (drop l.node-index l.nodes)));
}
