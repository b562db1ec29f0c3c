use Rattle.std.proofs.Common.{◌≡◌, ◌≤◌, ◌+◌, length}
use Rattle.pv_tables.specs.Tables.{entries_in, most_entries}
use Rattle.pv_cert.specs.Packs.{table_lines}
use Rattle.pv_cert.proofs.TableLines.{TablesRead}
use Rattle.pv_cert.proofs.tables.read_tables.Given as goal

abbrev pub invariant-tables : goal.invariant-tables
invariant-tables l = record {
  read : TablesRead l.initial.rest l.tables.items l.rest;
  room : l.room + entries_in l.tables.items ≡ most_entries;
  number : l.lines ≡ l.first + length (table_lines l.tables.items);
  within : l.lines + length l.rest ≤ l.first + length l.initial.rest;
}

abbrev pub decreases-tables : goal.decreases-tables
decreases-tables l = length l.rest
