use Rattle.std.proofs.Common.{arith, false, get_or, length, sym, ◌<◌, ◌≡◌}
use Rattle.pv_columns.proofs.ClosedMarks.{fewer_unmarked}
use Rattle.pv_columns.proofs.leading.mark.Goals as goal

pub returns-then-not-index-clause-fewer : goal.returns-then-not-index-clause-fewer
returns-then-not-index-clause-fewer c = λ _.
    let frees = c.args.frees.now.items in
    let within : c.args.column < length frees = omega (arith, c.if-column-len.true, c.len.ensures, c.args.frees.now.ok) in
    let free : get_or frees c.args.column false ≡ false = sym (rw c.if-not-index.true at c.index.ensures) in
    fewer_unmarked frees c.args.column within free
