use Rattle.std.proofs.Common.{take, ◌≡◌}
use Rattle.pv_reach.specs.Cuts.{AreColumnNumbers}
use Rattle.pv_reach.specs.Merging.{column_heads}
use Rattle.pv_reach.proofs.tables.cut.numbers_of.Given as goal

abbrev pub invariant-loop-column : goal.invariant-loop-column
invariant-loop-column l = record {
  are : column_heads l.found.names.items l.numbers.items ≡ take l.column-index l.columns;
  within : AreColumnNumbers l.found.names.items l.numbers.items;
}
