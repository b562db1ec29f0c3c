use Rattle.std.proofs.Common.{◌-◌, length, drop, sym, subst}
use Rattle.pv_params.specs.PlainBytes.{IsBehindRun}
use Rattle.pv_params.specs.PlainForms.{plain_mode}
use Rattle.pv_params.proofs.Steps.{behind_is}
use Rattle.pv_params.proofs.reading.TextStack.go_on.Goals as goal

pub copy-requires-clause-run : goal.copy-requires-clause-run
copy-requires-clause-run c =
    let text = c.args.top.text.items in
    let rest = drop (length text - c.args.top.left) text in
    let run = subst (λ l. IsBehindRun (plain_mode c.args.top.mode) l c.behind_run-left.result.now) c.rest.ensures c.behind_run-left.ensures.run in
    subst (IsBehindRun (plain_mode c.args.top.mode) rest) (sym (behind_is text run.run c.behind_run-left.result.now (length text - c.args.top.left) run.whole)) run
