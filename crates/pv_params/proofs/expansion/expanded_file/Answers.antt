use Rattle.std.proofs.Common.{ap}
use Rattle.pv_params.specs.OpenTexts.{stacked}
use Rattle.pv_params.proofs.Steps.{all_read}
use Rattle.pv_params.proofs.expansion.expanded_file.Goals as goal

pub returns-clause-read : goal.returns-clause-read
returns-clause-read c = all_read c.args.bytes.now _ _ _ _ _ _ c.steps.invariant c.in_ok-step.ensures.leads (ap stacked (c.in_ok-step.ensures.ended c.if-branch.false))
