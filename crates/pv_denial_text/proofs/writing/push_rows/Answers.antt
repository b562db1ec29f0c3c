use Rattle.pv_denial_text.proofs.WrittenLines.{range-all, range-more, rows-more}
use Rattle.pv_denial_text.proofs.writing.push_rows.Goals as goal

pub loop-row-preserved : goal.loop-row-preserved
loop-row-preserved c = record {
  written = rows-more c.args.rows.now c.loop-row.row-index c.row-item.result c.loop-row.text.items _ _ c.loop-row-test.true c.row-item.is c.in_ok-push_row.ensures.written c.loop-row.invariant.written;
  in_range = range-more c.args.rows.now c.loop-row.row-index c.row-item.result c.loop-row-test.true c.row-item.is c.push_row.ensures.in_range c.loop-row.invariant.in_range;
}

pub returns-clause-in_range : goal.returns-clause-in_range
returns-clause-in_range c = range-all c.args.rows.now c.loop-row.row-index c.loop-row-test.false c.loop-row.invariant.in_range
