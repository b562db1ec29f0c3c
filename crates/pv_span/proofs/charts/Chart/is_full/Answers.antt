use Rattle.std.proofs.Common.{arith}
use Rattle.std.proofs.lemmas.Bool.{le-leb, leb-true}
use Rattle.pv_span.proofs.RowsAcrossColumns.{rows_count}
use Rattle.pv_span.proofs.charts.Chart.is_full.Goals as goal

pub returns : goal.returns
returns c =
    let s = c.args.self.now in let n = rows_count s.done in let e = s.spans in
    ((λ t. let l = leb-true s.done.spans s.done.count t in omega arith), (λ l. le-leb s.done.spans s.done.count (omega arith)))
