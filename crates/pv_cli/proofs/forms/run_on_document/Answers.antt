use Rattle.std.proofs.Common.{Err, Some}
use Rattle.pv_cli.specs.CommandLine.{on_document}
use Rattle.pv_cli.proofs.Runs.{files_stopped, found_runs, rest_runs}
use Rattle.pv_cli.proofs.forms.run_on_document.Goals as goal

pub returns-in-Ok-clause-runs : goal.returns-in-Ok-clause-runs
returns-in-Ok-clause-runs g c =
    let named = c.args.named.now in
    rest_runs c.args.verb named.dtd.now named.root.now named.doc.now _ _ c.in-Ok.fetched _ _ _ _ _ _
    _ c.in-Ok.ensures.over c.do_rest.ensures

pub returns-in-Err-clause-runs : goal.returns-in-Err-clause-runs
returns-in-Err-clause-runs g c =
    let named = c.args.named.now in
    let stop = c.in-Err.stop in
    let is = on_document c.args.verb named.dtd.now named.root.now named.doc.now in
    found_runs (Some is) _ _ _ _ _ _ _ (Err stop) _
    (files_stopped c.args.verb named.dtd.now named.root.now named.doc.now _ _ _ stop
    c.in-Err.ensures.over) c.respond.ensures

pub returns-in-Ok-clause-files : goal.returns-in-Ok-clause-files
returns-in-Ok-clause-files g c = c.in-Ok.ensures.over.same

pub returns-in-Err-clause-files : goal.returns-in-Err-clause-files
returns-in-Err-clause-files g c = c.in-Err.ensures.over.same
