use Rattle.std.proofs.lemmas.Result.{err_from_is_err_and}
use Rattle.pv_denial_text.proofs.Heads.{denial-read, rows-refused}
use Rattle.pv_denial_text.proofs.reading.read_within.Goals as goal

pub returns-in_err-rows-clause-refused : goal.returns-in_err-rows-clause-refused
returns-in_err-rows-clause-refused c =
    let from = err_from_is_err_and c.from_residual-in_err-rows.result c.from_residual-in_err-rows.ensures.1 in
    let head = c.in_ok-head.head in
    rw (from.1, from.2) (rows-refused c.args.bytes.now head.path head.cause head.rest.now _ c.requires c.in_ok-head.ensures.read c.in_err-rows.ensures.refused)

pub returns-clause-read : goal.returns-clause-read
returns-clause-read c =
    let head = c.in_ok-head.head in
    denial-read c.args.bytes.now head.path head.cause head.rest.now c.in_ok-rows.rows.items _ c.requires c.in_ok-head.ensures.read c.in_ok-rows.ensures.read
    (λ i. record { path = head.path; cause = head.cause; rows = c.of.ensures i })
