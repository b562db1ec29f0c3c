use Rattle.std.proofs.Common.{sym, ◌∙◌}
use Rattle.pv_columns.proofs.EdgesAndSeeds.{among_at}
use Rattle.pv_columns.proofs.leading.find_free.Goals as goal

pub returns-then-takes_all : goal.returns-then-takes_all
returns-then-takes_all c = (among_at c.args.columns.now c.loop-column.column-index c.loop-column-test.true, sym c.is_marked.ensures ∙ c.if-is_marked.true, c.takes_all.ensures c.if-takes_all.true)
