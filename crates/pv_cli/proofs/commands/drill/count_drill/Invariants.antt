use Rattle.std.proofs.Common.{◌+◌, ◌-◌, ◌*◌, ◌≤◌, length}
use Rattle.pv_drill.specs.Drill.{drill_lines}
use Rattle.pv_cli.specs.Drill.{CountsReplies, IsCountOf, no_counts}
use Rattle.pv_cli.proofs.commands.drill.count_drill.Given as goal

abbrev pub invariant-loop-k : goal.invariant-loop-k
invariant-loop-k g l = record {
  within : l.k ≤ l.n;
  counted : CountsReplies l.initial.session no_counts (drill_lines l.k) l.session l.counts;
  bounded : IsCountOf (3 * l.k) l.counts;
  later : l.initial.steps ≤ l.steps;
  few : l.steps ≤ l.initial.steps + 2 * length (drill_lines l.k);
}

abbrev pub decreases-loop-k : goal.decreases-loop-k
decreases-loop-k g l = l.n - l.k
