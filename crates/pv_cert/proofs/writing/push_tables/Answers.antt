use Rattle.pv_cert.proofs.WrittenPacks.{table-written}
use Rattle.pv_cert.proofs.writing.push_tables.Goals as goal

pub loop-table-preserved : goal.loop-table-preserved
loop-table-preserved c =
    table-written c.args.tables.now c.loop-table.table-index c.table-item.result c.loop-table.text.items _ _ c.loop-table-test.true c.table-item.is c.in_ok-push_table.ensures c.loop-table.invariant
