-- The tests of a pack, each by itself, in their order.
use Rattle.std.specs.Prelude.{List, length, ℕ, ◌<◌, ◌≡◌}
use Rattle.pv_dtd.specs.Hedge.{IsValid}
use Rattle.pv_dtd.specs.Plain.{PlainDtd}
use Rattle.pv_tree.specs.Lists.{Listed, lists_of}
use Rattle.pv_tree.specs.Plain.{PlainDoc}
use Rattle.pv_tree.specs.View.{view}
use Rattle.pv_tree.specs.declared.nodes.Mark.{Mark}
use Rattle.pv_tables.specs.Values.{HaveTotal}
use Rattle.pv_table_check.specs.ClosedTables.{AreClosedTables}
use Rattle.pv_compare.specs.Kept.{AreMarks, IsBodyText, KeepsDocument}
use Rattle.pv_cert.specs.declared.packs.Pack.{Pack}
use Rattle.pv_verify.specs.declared.answers.Why.{Why}
use Rattle.pv_verify.specs.declared.answers.Why.TheVariants as why

-- The numbers: there are as many marks as the total says, and the whole-list values of the tables
-- add up to it.
pub record HasTotals {M : Type 0} (g : PlainDtd) (root : List ℕ) (lists : List (Listed M))
    (pack : Pack) : Type 0 where
  pub as_many : length pack.marks ≡ pack.total
  pub adds_up : HaveTotal g root lists pack.tables pack.total

-- a pack whose body is the text of this document passes a test
abbrev pub PassesTest : {M : Type 0} → PlainDtd → List ℕ → PlainDoc M → Pack → PlainDoc Mark → Why →
    Type 0
PassesTest g root doc pack body why.Body = IsBodyText root pack.body body
PassesTest g root doc pack body why.Marks = AreMarks pack.marks (view body.root)
PassesTest g root doc pack body why.Kept = KeepsDocument doc body pack.marks
PassesTest g root doc pack body why.Validity = IsValid g root (view body.root)
PassesTest g root doc pack body why.Closure = AreClosedTables g root (lists_of doc) pack.tables
PassesTest g root doc pack body why.Totals = HasTotals g root (lists_of doc) pack

-- the place of a test in their order
abbrev pub rank : Why → ℕ
rank why.Body = 0
rank why.Marks = 1
rank why.Kept = 2
rank why.Validity = 3
rank why.Closure = 4
rank why.Totals = 5

-- the pack passes all tests
pub record PassesAllTests {M : Type 0} (g : PlainDtd) (root : List ℕ) (doc : PlainDoc M)
    (pack : Pack) : Type 0 where
  pub body : PlainDoc Mark
  pub passes : (test : Why) → PassesTest g root doc pack body test

-- it passes all tests before this one, and not this one
pub record FailsFirst {M : Type 0} (g : PlainDtd) (root : List ℕ) (doc : PlainDoc M) (pack : Pack)
    (test : Why) : Type 0 where
  pub body : PlainDoc Mark
  pub is_body : IsBodyText root pack.body body
  pub before : (earlier : Why) → rank earlier < rank test → PassesTest g root doc pack body earlier
  pub fails : PassesTest g root doc pack body test → ⊥

-- this is the first test that the pack fails: its body is no text of a document, or it fails
-- another first
abbrev pub IsRejected : {M : Type 0} → PlainDtd → List ℕ → PlainDoc M → Pack → Why → Type 0
IsRejected g root doc pack why.Body = (body : PlainDoc Mark) → IsBodyText root pack.body body → ⊥
IsRejected g root doc pack why.Marks = FailsFirst g root doc pack why.Marks
IsRejected g root doc pack why.Kept = FailsFirst g root doc pack why.Kept
IsRejected g root doc pack why.Validity = FailsFirst g root doc pack why.Validity
IsRejected g root doc pack why.Closure = FailsFirst g root doc pack why.Closure
IsRejected g root doc pack why.Totals = FailsFirst g root doc pack why.Totals
