-- What the tests of a pack show, as a statement. M is the type of a document's marks.
use Rattle.std.specs.Prelude.{List, ℕ, ◌<◌, ◌≡◌}
use Rattle.pv_dtd.specs.Plain.{PlainDtd}
use Rattle.pv_dtd.specs.Proper.{IsProperDtd}
use Rattle.pv_tree.specs.Lists.{lists_of}
use Rattle.pv_tree.specs.Plain.{PlainDoc}
use Rattle.pv_tree.specs.View.{view}
use Rattle.pv_tree.specs.declared.nodes.Mark.{Mark}
use Rattle.pv_tree.specs.declared.nodes.Verdict.{Verdict}
use Rattle.pv_rules.specs.Derivations.{heaviest}
use Rattle.pv_missing.specs.Completions.{Completes, IsLeast}
use Rattle.pv_missing.specs.Proper.{IsProperDoc}
use Rattle.pv_missing.specs.Verdicts.{AreVerdicts}
use Rattle.pv_tables.specs.Tables.{AreTables}
use Rattle.pv_compare.specs.Kept.{IsBodyText}
use Rattle.pv_cert.specs.declared.packs.Pack.{Pack}
use Rattle.pv_verify.specs.Tests.{PassesAllTests, IsRejected}
use Rattle.pv_verify.specs.declared.answers.Why.{Why}

-- The body is the text of a completion of the document, by as many elements as the total says, and
-- that is the least number of elements whose insertion makes the document valid.
pub record IsLeastPack {M : Type 0} (g : PlainDtd) (root : List ℕ) (doc : PlainDoc M) (pack : Pack)
    : Type 0 where
  pub body : PlainDoc Mark
  pub is_body : IsBodyText root pack.body body
  pub completes : Completes g root doc body pack.marks pack.total
  pub least : IsLeast g root pack.total (view doc.root)

-- what passes all tests is a least completion, whoever made it
abbrev pub AcceptedIsLeast : (M : Type 0) → Type 0
AcceptedIsLeast M = (g : PlainDtd) (root : List ℕ) (doc : PlainDoc M) (pack : Pack) →
    IsProperDtd g → IsProperDoc doc → PassesAllTests g root doc pack → IsLeastPack g root doc pack

-- a pack fails at most one test first, and is accepted only where it fails none
pub record HasOneOutcome {M : Type 0} (g : PlainDtd) (root : List ℕ) (doc : PlainDoc M)
    (pack : Pack)
    : Type 0 where
  pub one_first : (test other : Why) → IsRejected g root doc pack test →
      IsRejected g root doc pack other → test ≡ other
  pub not_both : (test : Why) → IsRejected g root doc pack test → PassesAllTests g root doc pack → ⊥

abbrev pub OneAnswer : (M : Type 0) → Type 0
OneAnswer M = (g : PlainDtd) (root : List ℕ) (doc : PlainDoc M) (pack : Pack) →
    HasOneOutcome g root doc pack

-- The pack of a least completion of a document, by at most 1,000,000 elements, and of the tables of
-- its Possible lists passes all tests.
abbrev pub MadeIsAccepted : (M : Type 0) → Type 0
MadeIsAccepted M = (g : PlainDtd) (root : List ℕ) (doc : PlainDoc M) (pack : Pack)
    (body : PlainDoc Mark) (vs : List Verdict) → IsProperDtd g → IsProperDoc doc →
    AreVerdicts g root (lists_of doc) vs → IsBodyText root pack.body body →
    Completes g root doc body pack.marks pack.total → IsLeast g root pack.total (view doc.root) →
    pack.total < heaviest → AreTables g root (lists_of doc) pack.tables →
    PassesAllTests g root doc pack
