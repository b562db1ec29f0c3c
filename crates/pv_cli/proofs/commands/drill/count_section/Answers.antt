use Rattle.std.proofs.Common.{arith}
use Rattle.pv_cli.proofs.CommandCounts.{three_lines, two_lines}
use Rattle.pv_cli.proofs.DrillReplies.{counts_third}
use Rattle.pv_cli.proofs.commands.drill.count_section.Goals as goal

pub returns-then-k-eq0-clause-counted : goal.returns-then-k-eq0-clause-counted
returns-then-k-eq0-clause-counted g c =
    counts_third _ _ _ _ c.args.k _ _ _ c.count_drill_line-then-k-eq0.result c.if-k-eq0.true
    c.in_ok-first.ensures.counted c.in_ok-second.ensures.counted
    c.count_drill_line-then-k-eq0.ensures.counted

pub returns-in_err-first-clause-steps : goal.returns-in_err-first-clause-steps
returns-in_err-first-clause-steps g c =
    omega (arith, c.in_err-first.ensures.steps, two_lines c.args.k)

pub returns-in_err-second-clause-steps : goal.returns-in_err-second-clause-steps
returns-in_err-second-clause-steps g c =
    omega (arith, c.in_ok-first.ensures.steps, c.in_err-second.ensures.steps, two_lines c.args.k)

pub returns-then-k-eq0-clause-steps : goal.returns-then-k-eq0-clause-steps
returns-then-k-eq0-clause-steps g c =
    omega (
      arith,
      c.in_ok-first.ensures.steps,
      c.in_ok-second.ensures.steps,
      c.count_drill_line-then-k-eq0.ensures.steps,
      three_lines c.args.k c.if-k-eq0.true,
    )

pub returns-else-k-eq0-clause-steps : goal.returns-else-k-eq0-clause-steps
returns-else-k-eq0-clause-steps g c =
    omega (arith, c.in_ok-first.ensures.steps, c.in_ok-second.ensures.steps, two_lines c.args.k)

pub returns-in_err-second-clause-later : goal.returns-in_err-second-clause-later
returns-in_err-second-clause-later g c =
    omega (arith, c.in_ok-first.ensures.later, c.in_err-second.ensures.later)

pub returns-then-k-eq0-clause-later : goal.returns-then-k-eq0-clause-later
returns-then-k-eq0-clause-later g c =
    omega (
      arith,
      c.in_ok-first.ensures.later,
      c.in_ok-second.ensures.later,
      c.count_drill_line-then-k-eq0.ensures.later,
    )

pub returns-else-k-eq0-clause-later : goal.returns-else-k-eq0-clause-later
returns-else-k-eq0-clause-later g c =
    omega (arith, c.in_ok-first.ensures.later, c.in_ok-second.ensures.later)
