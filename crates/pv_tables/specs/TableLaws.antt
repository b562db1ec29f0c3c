-- Laws of tables, each a statement. M is the type of a document's marks.
use Rattle.std.specs.Prelude.{List, true, ℕ, ◌≡◌, ◌↔◌, ◌⊎◌}
use Rattle.std.specs.List.{Contains}
use Rattle.pv_model.specs.Plain.{PlainToken}
use Rattle.pv_dtd.specs.Plain.{PlainDtd}
use Rattle.pv_dtd.specs.Proper.{IsProperDtd}
use Rattle.pv_tree.specs.Lists.{Listed, lists_of}
use Rattle.pv_tree.specs.Plain.{PlainDoc}
use Rattle.pv_tree.specs.View.{view}
use Rattle.pv_tree.specs.declared.nodes.Verdict.{Verdict}
use Rattle.pv_rules.specs.Derivations.{IsClosed, IsWeight}
use Rattle.pv_rules.specs.Rules.{Goal, IsKnownWord, IsSpan, Rule, over}
use Rattle.pv_rules.specs.Sites.{HasSite, PlainSite}
use Rattle.pv_missing.specs.Completions.{IsPotentiallyValid}
use Rattle.pv_missing.specs.Proper.{IsProperDoc}
use Rattle.pv_missing.specs.Verdicts.{AreVerdicts}
use Rattle.pv_missing.specs.ListWeights.{SumIsLeast}
use Rattle.pv_tables.specs.Tables.{AreAllEntries, AreTables, kind_rank, site_number}
use Rattle.pv_tables.specs.Values.{HaveTotal, IsListed, IsUnlisted, are_same_goals, listed_value}
use Rattle.pv_tables.specs.declared.tables.Entry.{Entry}
use Rattle.pv_tables.specs.declared.tables.Table.{Table}

-- the value that entries give a site over a span is that of one of them, or past the cut where none
-- has that site and span
abbrev pub ListedOrNot : Type 0
ListedOrNot = (es : List Entry) (x : Goal) → IsListed es x ⊎ IsUnlisted es x

-- the test for the same site and span holds exactly of the same
abbrev pub GoalsAreTold : Type 0
GoalsAreTold = (a b : Goal) → (are_same_goals a b ≡ true) ↔ (a ≡ b)

-- a site is told by its kind and its number
abbrev pub SitesAreTold : Type 0
SitesAreTold = (a b : PlainSite) → kind_rank a ≡ kind_rank b → site_number a ≡ site_number b → a ≡ b

-- a document's list is told by its path
abbrev pub OneListAtPath : (M : Type 0) → Type 0
OneListAtPath M = (doc : PlainDoc M) (a b : Listed M) → Contains (lists_of doc) a →
    Contains (lists_of doc) b → a.path ≡ b.path → a ≡ b

-- lists have one list of tables
abbrev pub OneTables : (M : Type 0) → Type 0
OneTables M = (g : PlainDtd) (root : List ℕ) (lists : List (Listed M)) (ts us : List Table) →
    AreTables g root lists ts → AreTables g root lists us → ts ≡ us

-- what all light entries of a word give a site of the DTD over a span is its weight, listed or not
abbrev pub EntriesAreWeights : Type 0
EntriesAreWeights = (g : PlainDtd) (w : List PlainToken) (es : List Entry) (s : PlainSite)
    (i j : ℕ) → AreAllEntries g w es → HasSite g s → IsSpan w i j →
    IsWeight (Rule g w) (over s i j) (listed_value es (over s i j))

-- all light entries of a word whose names are those of the DTD are closed, read as a table
abbrev pub EntriesAreClosed : Type 0
EntriesAreClosed = (g : PlainDtd) (w : List PlainToken) (es : List Entry) → IsProperDtd g →
    IsKnownWord g w → AreAllEntries g w es →
    IsClosed (Rule g w) (listed_value es)

-- the whole-list values of a document's tables add up to its least number
abbrev pub TablesAddUp : (M : Type 0) → Type 0
TablesAddUp M = (g : PlainDtd) (root : List ℕ) (doc : PlainDoc M) (vs : List Verdict)
    (ts : List Table) (s : ℕ) → IsProperDtd g → IsProperDoc doc →
    AreVerdicts g root (lists_of doc) vs → IsPotentiallyValid g root (view doc.root) →
    AreTables g root (lists_of doc) ts → HaveTotal g root (lists_of doc) ts s →
    SumIsLeast g root s (view doc.root)
