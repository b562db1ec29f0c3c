-- The law of closed tables, as a statement. M is the type of a document's marks.
use Rattle.std.specs.Prelude.{List, ℕ}
use Rattle.pv_dtd.specs.Plain.{PlainDtd}
use Rattle.pv_dtd.specs.Proper.{IsProperDtd}
use Rattle.pv_tree.specs.Lists.{lists_of}
use Rattle.pv_tree.specs.Plain.{PlainDoc}
use Rattle.pv_tables.specs.Tables.{AreTables}
use Rattle.pv_tables.specs.declared.tables.Table.{Table}
use Rattle.pv_table_check.specs.ClosedTables.{AreClosedTables}

-- the tables of a document, each of all light weights of a Possible list, are closed
abbrev pub TablesAreClosed : (M : Type 0) → Type 0
TablesAreClosed M = (g : PlainDtd) (root : List ℕ) (doc : PlainDoc M) (ts : List Table) →
    IsProperDtd g → AreTables g root (lists_of doc) ts → AreClosedTables g root (lists_of doc) ts
