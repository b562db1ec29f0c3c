use Rattle.std.proofs.Common.{arith}
use Rattle.pv_cli.proofs.CommandCounts.{section_cut, section_few}
use Rattle.pv_cli.proofs.DrillReplies.{counts_section}
use Rattle.pv_cli.proofs.commands.drill.count_drill.Goals as goal

pub loop-k-preserved : goal.loop-k-preserved
loop-k-preserved g c =
    let kept = c.loop-k.invariant in
    let more = c.in_ok-counts.ensures in
    record {
      within = omega (arith, c.loop-k-test.true);
      counted = counts_section _ _ _ _ _ _ kept.counted more.counted;
      bounded = record {
        lines = omega (arith, more.bounded.lines, kept.bounded.lines);
        accepted = more.bounded.accepted;
        refused = more.bounded.refused;
        checked = more.bounded.checked;
      };
      later = omega (arith, kept.later, more.later);
      few = section_few _ _ _ _ kept.few more.steps;
    }

pub returns-in_err-counts-clause-steps : goal.returns-in_err-counts-clause-steps
returns-in_err-counts-clause-steps g c =
    section_cut _ _ _ _ _ c.loop-k-test.true c.loop-k.invariant.few c.in_err-counts.ensures.steps

pub returns-in_err-counts-clause-later : goal.returns-in_err-counts-clause-later
returns-in_err-counts-clause-later g c =
    omega (arith, c.loop-k.invariant.later, c.in_err-counts.ensures.later)
