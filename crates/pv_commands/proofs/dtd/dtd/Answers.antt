use Rattle.std.proofs.lemmas.Result.{err_from_is_err_and}
use Rattle.pv_commands.proofs.DtdListings.{dtd_stopped, dtd_told}
use Rattle.pv_commands.proofs.dtd.dtd.Goals as goal

pub returns-in_err-opened-clause-finds : goal.returns-in_err-opened-clause-finds
returns-in_err-opened-clause-finds g c = λ checked.
    let p = err_from_is_err_and c.from_residual.result c.from_residual.ensures.1 in
    rw (p.1, p.2)
    (dtd_stopped c.args.name.now _ _ checked c.in_err-opened.field-0.0 c.in_err-opened.ensures.over)

pub returns-clause-finds : goal.returns-clause-finds
returns-clause-finds g c = λ checked.
    dtd_told c.args.name.now _ _ checked c.in_ok-opened.opened c.listing.result
    c.in_ok-opened.ensures.over c.listing.ensures

pub returns-in_err-opened-clause-files : goal.returns-in_err-opened-clause-files
returns-in_err-opened-clause-files g c = c.in_err-opened.ensures.over.same

pub returns-clause-files : goal.returns-clause-files
returns-clause-files g c = c.in_ok-opened.ensures.over.same
