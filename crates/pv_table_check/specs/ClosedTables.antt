-- Closed tables of the lists of a document, and tables of lists that are too wide. M is the type of
-- a document's marks.
use Rattle.std.specs.Prelude.{List, Some, ℕ, ◌++◌, ◌∷◌, ◌≡◌}
use Rattle.std.specs.List.{All, AllPairs, Contains}
use Rattle.pv_dtd.specs.Plain.{PlainDtd}
use Rattle.pv_tree.specs.Lists.{Listed}
use Rattle.pv_tree.specs.PathOrder.{IsPathBefore}
use Rattle.pv_tree.specs.Plain.{Forest}
use Rattle.pv_tree.specs.Words.{word_of}
use Rattle.pv_rules.specs.Derivations.{IsClosed}
use Rattle.pv_rules.specs.Rules.{Rule}
use Rattle.pv_rules.specs.Sites.{PlainSite}
use Rattle.pv_missing.specs.ListWeights.{site_of}
use Rattle.pv_missing.specs.Widths.{IsListForWeights}
use Rattle.pv_tables.specs.Values.{listed_value}
use Rattle.pv_tables.specs.declared.tables.Table.{Table}
use Rattle.pv_table_check.specs.ClosedEntries.{AreOver}

-- The path is that of one of the lists, whose kids are these and whose owner's kids are to be this
-- site.
pub record IsListOf {M : Type 0} (g : PlainDtd) (root : List ℕ) (lists : List (Listed M))
    (path : List ℕ) (site : PlainSite) (kids : Forest M) : Type 0 where
  pub list : Listed M
  pub is_listed : Contains lists list
  pub is_path : path ≡ list.path
  pub is_site : site_of g root list.owner ≡ Some site
  pub are_kids : list.kids ≡ kids

-- The table has the path of one of the lists, which the DTD has a site for; its entries are over
-- the list's word and ascend strictly; and no rule leads to less than its values, what isn't listed
-- having the value 1,000,001.
pub record IsClosedTable {M : Type 0} (g : PlainDtd) (root : List ℕ) (lists : List (Listed M))
    (t : Table) : Type 0 where
  pub list : Listed M
  pub is_listed : Contains lists list
  pub is_path : t.path ≡ list.path
  pub site : PlainSite
  pub is_site : site_of g root list.owner ≡ Some site
  pub over : AreOver g (word_of g list.kids) t.entries
  pub closed : IsClosed (Rule g (word_of g list.kids)) (listed_value t.entries)

-- The tables: their paths ascend in document order, and each is closed.
pub record AreClosedTables {M : Type 0} (g : PlainDtd) (root : List ℕ) (lists : List (Listed M))
    (ts : List Table) : Type 0 where
  pub ascend : AllPairs (λ t u. IsPathBefore t.path u.path) ts
  pub each : All (IsClosedTable g root lists) ts

-- no list at the table's path is too wide for weights
abbrev pub IsNarrowTable : {M : Type 0} → PlainDtd → List (Listed M) → Table → Type 0
IsNarrowTable {M = M} g lists t = (list : Listed M) → Contains lists list → t.path ≡ list.path →
    IsListForWeights g list

-- none of the tables has the path of a list that is too wide for weights
abbrev pub AreNarrowTables : {M : Type 0} → PlainDtd → List (Listed M) → List Table → Type 0
AreNarrowTables g lists ts = All (IsNarrowTable g lists) ts

-- the path of the first table that has that of a list which is too wide for weights
pub record IsFirstWideTable {M : Type 0} (g : PlainDtd) (lists : List (Listed M)) (ts : List Table)
    (path : List ℕ) : Type 0 where
  pub before : List Table
  pub table : Table
  pub after : List Table
  pub is_split : ts ≡ before ++ table ∷ after
  pub all_before : AreNarrowTables g lists before
  pub list : Listed M
  pub is_listed : Contains lists list
  pub is_path : table.path ≡ list.path
  pub is_wide : ¬ IsListForWeights g list
  pub is_first : path ≡ table.path
