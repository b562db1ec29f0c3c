-- A walk that makes the tables of Possible lists, as it carries the proof.
use Rattle.std.specs.Prelude.{List, drop, length, ℕ, ◌+◌, ◌++◌, ◌<◌, ◌≡◌}
use Rattle.std.specs.List.{AllByRecursion}
use Rattle.pv_model.specs.Plain.{PlainToken}
use Rattle.pv_dtd.specs.Plain.{PlainDtd}
use Rattle.pv_tree.specs.Lists.{IsFirstNot, Listed}
use Rattle.pv_tree.specs.Plain.{Forest}
use Rattle.pv_tree.specs.Words.{word_of}
use Rattle.pv_tree.specs.declared.nodes.Mark.{Mark}
use Rattle.pv_tree.specs.declared.nodes.Verdict.{Verdict}
use Rattle.pv_missing.specs.LiveWords.{IsLiveWord}
use Rattle.pv_missing.specs.Verdicts.{AreVerdicts}
use Rattle.pv_missing.specs.Widths.{FitsWeights}
use Rattle.pv_tables.specs.declared.tables.Entry.{Entry}
use Rattle.pv_tables.specs.declared.tables.Table.{Table}
use Rattle.pv_complete.specs.NeededElements.{CanWeigh}
use Rattle.pv_tables.specs.Tables.{AreAllEntries, AreEntries, AreTables, entries_in}
use Rattle.pv_complete.specs.Tables.{HasMore}
use Rattle.pv_complete.specs.declared.errors.NeedError.{NeedError}
use Rattle.pv_complete.specs.declared.errors.NeedError.TheVariants.{Impossible, NoMemory, TooHeavy}
use Rattle.pv_complete.specs.declared.errors.NeedError.TheVariants.{TooMany, TooWide}

-- these are all entries of the live word of the kids
abbrev pub AreListEntries : {M : Type 0} → PlainDtd → Forest M → List Entry → Type 0
AreListEntries g kids es = (live : List PlainToken) × IsLiveWord g (word_of g kids) live ×
    AreAllEntries g live es

-- the word has more entries
pub record HasMoreEntries (g : PlainDtd) (w : List PlainToken) (room : ℕ) : Type 0 where
  pub entries : List Entry
  pub are_entries : AreEntries g w entries
  pub more : room < length entries

-- why the entries of a word at these places aren't listed
abbrev pub StopsWord : PlainDtd → List PlainToken → List ℕ → ℕ → NeedError → Type 0
StopsWord g w places room (Impossible path) = ⊥
StopsWord g w places room (TooWide path) = (path ≡ places) × (FitsWeights g (length w) → ⊥)
StopsWord g w places room TooHeavy = ⊥
StopsWord g w places room TooMany = HasMoreEntries g w room
StopsWord g w places room NoMemory = Unit {0}

-- why those of the live word of the kids aren't
abbrev pub StopsKids : {M : Type 0} → PlainDtd → Forest M → List ℕ → ℕ → NeedError → Type 0
StopsKids g kids places room (Impossible path) = ⊥
StopsKids g kids places room (TooWide path) = (path ≡ places) ×
    (FitsWeights g (length (word_of g kids)) → ⊥)
StopsKids g kids places room TooHeavy = ⊥
StopsKids g kids places room TooMany = (live : List PlainToken) ×
    IsLiveWord g (word_of g kids) live × HasMoreEntries g live room
StopsKids g kids places room NoMemory = Unit {0}

-- how many verdicts are used, the tables so far, and how many entries more there may be
pub record PlainMade : Type 0 where
  pub used : ℕ
  pub tables : List Table
  pub room : ℕ

-- The lists come first among those whose verdicts aren't used yet. Their tables are added, and
-- there is room for these.
pub record Makes (g : PlainDtd) (root : List ℕ) (lists more : List (Listed Mark))
    (vs : List Verdict) (old new : PlainMade) : Type 0 where
  pub left : AreVerdicts g root more (drop new.used vs)
  pub tables : List Table
  pub are_tables : AreTables g root lists tables
  pub added : new.tables ≡ old.tables ++ tables
  pub room : new.room + entries_in tables ≡ old.room
  pub weighed : AllByRecursion (CanWeigh g root) lists

-- where the verdicts that aren't used are those of these lists and more, their tables are made
abbrev pub MakesTables : PlainDtd → List ℕ → List (Listed Mark) → List Verdict → PlainMade →
    PlainMade → Type 0
MakesTables g root lists vs old new =
    (more : List (Listed Mark)) → AreVerdicts g root (lists ++ more) (drop old.used vs) →
    Makes g root lists more vs old new

-- why the tables of these lists aren't made
abbrev pub StopsLists : PlainDtd → List ℕ → List (Listed Mark) → ℕ → NeedError → Type 0
StopsLists g root lists room (Impossible path) = ⊥
StopsLists g root lists room (TooWide path) = IsFirstNot (CanWeigh g root) lists path
StopsLists g root lists room TooHeavy = ⊥
StopsLists g root lists room TooMany = HasMore g root lists room
StopsLists g root lists room NoMemory = Unit {0}

abbrev pub StopsTables : PlainDtd → List ℕ → List (Listed Mark) → List Verdict → PlainMade →
    NeedError → Type 0
StopsTables g root lists vs old e =
    (more : List (Listed Mark)) → AreVerdicts g root (lists ++ more) (drop old.used vs) →
    StopsLists g root lists old.room e
