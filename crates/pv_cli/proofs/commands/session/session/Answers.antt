use Rattle.std.proofs.Common.{Err}
use Rattle.pv_opening.specs.Returns.{ending_of, plain_fetched}
use Rattle.pv_cli.specs.declared.verb.Verb.TheVariants.{Session}
use Rattle.pv_cli.proofs.CommandCounts.{session_quiet}
use Rattle.pv_cli.proofs.Runs.{found_rest, session_stopped, talked_rest}
use Rattle.pv_cli.proofs.commands.session.session.Goals as goal

pub returns-in-Err : goal.returns-in-Err
returns-in-Err g c =
    let root = c.args.root.now in
    let fetched = plain_fetched c.args.fetched in
    let stop = c.in-Err.stop in
    found_rest Session root fetched _ _ _ _ _ (Err stop) _
    (session_stopped root fetched stop c.in-Err.ensures.returns)
    (session_quiet _ _ 0 _ (ending_of (Err stop)) _ _ c.in-Err.ensures.checks) c.respond.ensures

pub returns : goal.returns
returns g c =
    let root = c.args.root.now in
    let fetched = plain_fetched c.args.fetched in
    talked_rest root fetched c.in-Ok.session _ _ _ _ _ _ _ _ c.in-Ok.ensures.returns
    c.in-Ok.ensures.checks c.converse-status.ensures
