-- Why the tables of a document are made, or aren't.
use Rattle.std.specs.Prelude.{List, length, ℕ, ◌+◌, ◌++◌, ◌<◌, ◌∷◌, ◌≡◌, ◌≤◌}
use Rattle.pv_model.specs.Plain.{PlainToken}
use Rattle.pv_dtd.specs.Plain.{PlainDtd}
use Rattle.pv_tree.specs.Lists.{Listed, lists_of}
use Rattle.pv_tree.specs.Plain.{PlainDoc}
use Rattle.pv_tree.specs.Words.{word_of}
use Rattle.pv_tree.specs.declared.nodes.Verdict.TheVariants as verdict
use Rattle.pv_missing.specs.LiveWords.{IsLiveWord}
use Rattle.pv_missing.specs.Verdicts.{IsVerdict}
use Rattle.pv_tables.specs.Tables.{AreEntries, AreTables, entries_in}
pub use Rattle.pv_tables.specs.Tables.{most_entries}
use Rattle.pv_tables.specs.declared.tables.Entry.{Entry}
use Rattle.pv_tables.specs.declared.tables.Table.{Table}
use Rattle.pv_complete.specs.NeededElements.{HasCause, Needs}
use Rattle.pv_complete.specs.declared.errors.NeedError.{NeedError}
use Rattle.pv_complete.specs.declared.errors.NeedError.TheVariants.{Impossible, NoMemory}
use Rattle.pv_complete.specs.declared.errors.NeedError.TheVariants.{TooHeavy, TooMany, TooWide}

-- The tables of the lists before a Possible list, and entries of that list, are more than n in all.
pub record HasMore {M : Type 0} (g : PlainDtd) (root : List ℕ) (lists : List (Listed M)) (n : ℕ) :
    Type 0 where
  pub before : List (Listed M)
  pub list : Listed M
  pub after : List (Listed M)
  pub is_split : lists ≡ before ++ list ∷ after
  pub tables : List Table
  pub are_tables : AreTables g root before tables
  pub possible : IsVerdict g root list verdict.Possible
  pub live : List PlainToken
  pub is_live : IsLiveWord g (word_of g list.kids) live
  pub entries : List Entry
  pub are_entries : AreEntries g live entries
  pub more : n < entries_in tables + length entries

-- The least number of missing elements can be told, and these are the tables.
pub record HasTables {M : Type 0} (g : PlainDtd) (root : List ℕ) (doc : PlainDoc M)
    (tables : List Table) : Type 0 where
  pub least : ℕ
  pub needs : Needs g root doc least
  pub are_tables : AreTables g root (lists_of doc) tables
  pub few : entries_in tables ≤ most_entries

-- The least number of missing elements can be told, and the tables would have more than 8,388,608
-- entries.
pub record HasTooMany {M : Type 0} (g : PlainDtd) (root : List ℕ) (doc : PlainDoc M) : Type 0 where
  pub least : ℕ
  pub needs : Needs g root doc least
  pub many : HasMore g root (lists_of doc) most_entries

-- why there are no tables: as nothing is told of missing elements, and then too many entries
abbrev pub HasTablesCause : {M : Type 0} → PlainDtd → List ℕ → PlainDoc M → NeedError → Type 0
HasTablesCause g root doc (Impossible path) = HasCause g root doc (Impossible path)
HasTablesCause g root doc (TooWide path) = HasCause g root doc (TooWide path)
HasTablesCause g root doc TooHeavy = HasCause g root doc TooHeavy
HasTablesCause g root doc TooMany = HasTooMany g root doc
HasTablesCause g root doc NoMemory = Unit {0}
