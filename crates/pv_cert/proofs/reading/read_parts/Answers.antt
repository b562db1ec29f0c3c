use Rattle.std.proofs.Common.{◌≡◌, length, arith, refl}
use Rattle.std.proofs.lemmas.Result.{err_from_is_err_and}
use Rattle.pv_cert.proofs.Heads.{body-between, body-fits, parts-read, tables-refused}
use Rattle.pv_cert.proofs.reading.read_parts.Goals as goal

pub returns-in_err-tables-clause-refused : goal.returns-in_err-tables-clause-refused
returns-in_err-tables-clause-refused c =
    let from = err_from_is_err_and c.from_residual-in_err-tables.result c.from_residual-in_err-tables.ensures.1 in
    let head = c.in_ok-head.head in
    let n : c.len.result ≡ length head.marks.items = omega arith in
    rw (from.1, from.2) (tables-refused c.args.bytes.now head.total head.marks.items head.body.now head.rest.now _ c.requires c.in_ok-head.ensures.read (rw n at c.in_err-tables.ensures.refused))

pub overflow_sub-start : goal.overflow_sub-start
overflow_sub-start c =
    let head = c.in_ok-head.head in
    omega (arith, body-fits c.args.bytes.now head.total head.marks.items head.body.now head.rest.now c.in_ok-head.ensures.read)

pub returns-clause-read : goal.returns-clause-read
returns-clause-read c =
    let head = c.in_ok-head.head in
    let stand = c.in_ok-head.ensures.read in
    parts-read c.args.bytes.now head.total head.marks.items head.body.now head.rest.now
    c.in_ok-tables.tables.items _ _ c.requires stand c.in_ok-tables.ensures.read
    (body-between c.args.bytes.now head.total head.marks.items head.body.now head.rest.now _ _
    stand refl refl)
