use Rattle.std.proofs.Common.{suc, length, ◌++◌}
use Rattle.pv_reach.specs.Tables.{IsTable, IsReachedTable, IsComplete, room}
use Rattle.pv_reach.proofs.tables.table.fill.Given as goal

abbrev pub invariant-loop : goal.invariant-loop
invariant-loop l = record {
  table : IsTable l.word l.width l.table.items;
  attained : IsReachedTable (l.front ++ l.rules) l.word l.width l.table.items;
  complete : IsComplete (l.front ++ l.rules) l.word l.width l.table.items (suc l.place);
}

abbrev pub decreases-loop : goal.decreases-loop
decreases-loop l = room (suc (length l.word)) l.table.items

abbrev pub invariant-loop-place : goal.invariant-loop-place
invariant-loop-place l = record {
  table : IsTable l.word l.width l.table.items;
  attained : IsReachedTable (l.front ++ l.rules) l.word l.width l.table.items;
  complete : IsComplete (l.front ++ l.rules) l.word l.width l.table.items l.place;
}
