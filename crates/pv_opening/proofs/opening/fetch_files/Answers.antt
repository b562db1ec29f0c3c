use Rattle.std.proofs.lemmas.Result.{err_from_is_err_and}
use Rattle.pv_opening.proofs.FetchedFiles.{both_fetched, first_stopped, second_stopped}
use Rattle.pv_opening.proofs.opening.fetch_files.Goals as goal

pub returns-in_err-dtd-clause-over : goal.returns-in_err-dtd-clause-over
returns-in_err-dtd-clause-over g c =
    let named = c.args.named.now in
    let p = err_from_is_err_and c.from_residual.result c.from_residual.ensures.1 in
    rw (p.1, p.2) (first_stopped named.dtd.now named.doc.now _ _ c.in_err-dtd.field-0.0 c.in_err-dtd.ensures.over)

pub returns-in_err-bytes-clause-over : goal.returns-in_err-bytes-clause-over
returns-in_err-bytes-clause-over g c =
    let named = c.args.named.now in
    let p = err_from_is_err_and c.from_residual-in_err-bytes.result c.from_residual-in_err-bytes.ensures.1 in
    rw (p.1, p.2) (second_stopped named.dtd.now named.doc.now _ _ _ c.in_ok-dtd.dtd c.in_err-bytes.field-0.0 c.in_ok-dtd.ensures.over c.in_err-bytes.ensures.over)

pub returns-clause-over : goal.returns-clause-over
returns-clause-over g c =
    let named = c.args.named.now in
    both_fetched named.dtd.now named.doc.now _ _ _ _ c.in_ok-dtd.ensures.over c.in_ok-bytes.ensures.over
