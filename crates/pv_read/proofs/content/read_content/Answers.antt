use Rattle.std.proofs.lemmas.Result.{err_from_is_err_and}
use Rattle.pv_read.proofs.Contents.{refused_content}
use Rattle.pv_read.proofs.content.read_content.Goals as goal

pub returns-in_err-whole-clause-refused : goal.returns-in_err-whole-clause-refused
returns-in_err-whole-clause-refused c =
    let from = err_from_is_err_and c.from_residual.result c.from_residual.ensures.1 in
    rw (from.1, from.2) (refused_content c.items.invariant _ c.in_err-whole.ensures.refused)
