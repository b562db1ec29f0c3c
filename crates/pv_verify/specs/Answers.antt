-- What verifying a pack answers. M is the type of a document's marks.
use Rattle.std.specs.Prelude.{List, ℕ, ◌≡◌, ◌≢◌}
use Rattle.pv_dtd.specs.Plain.{PlainDtd}
use Rattle.pv_tree.specs.Lists.{lists_of}
use Rattle.pv_tree.specs.Marks.{blank_mark}
use Rattle.pv_tree.specs.Plain.{PlainDoc}
use Rattle.pv_tree.specs.declared.nodes.Mark.{Mark}
use Rattle.pv_read.specs.Errors.{Refuses}
use Rattle.pv_read.specs.Meaning.{DocumentMeans, is_document}
use Rattle.pv_read.specs.declared.errors.DocError.{DocError}
use Rattle.pv_read.specs.declared.errors.DocError.TheVariants as document
use Rattle.pv_table_check.specs.ClosedTables.{AreNarrowTables, IsFirstWideTable}
use Rattle.pv_cert.specs.declared.packs.Pack.{Pack}
use Rattle.pv_verify.specs.Laws.{IsLeastPack}
use Rattle.pv_verify.specs.Tests.{PassesAllTests, IsRejected}
use Rattle.pv_verify.specs.declared.answers.Answer.{Answer}
use Rattle.pv_verify.specs.declared.answers.Answer.TheVariants as answer
use Rattle.pv_verify.specs.declared.answers.Why.{Why}
use Rattle.pv_verify.specs.declared.errors.VerifyError.{VerifyError}
use Rattle.pv_verify.specs.declared.errors.VerifyError.TheVariants as error

-- The pack passes all tests: its body is a least completion, by this many elements. No table is
-- that of a list which is too wide for weights.
pub record IsAcceptedAs {M : Type 0} (g : PlainDtd) (root : List ℕ) (doc : PlainDoc M) (pack : Pack)
    (total : ℕ) : Type 0 where
  pub total_is : total ≡ pack.total
  pub narrow : AreNarrowTables g (lists_of doc) pack.tables
  pub passes : PassesAllTests g root doc pack
  pub least : IsLeastPack g root doc pack

-- This is the first test that the pack fails. No table is that of a list which is too wide.
pub record IsRejectedBy {M : Type 0} (g : PlainDtd) (root : List ℕ) (doc : PlainDoc M) (pack : Pack)
    (why : Why) : Type 0 where
  pub narrow : AreNarrowTables g (lists_of doc) pack.tables
  pub fails : IsRejected g root doc pack why

-- the answer to a pack against this document
abbrev pub IsAnswer : {M : Type 0} → PlainDtd → List ℕ → PlainDoc M → Pack → Answer → Type 0
IsAnswer g root doc pack (answer.Accepted total) = IsAcceptedAs g root doc pack total
IsAnswer g root doc pack (answer.Rejected why) = IsRejectedBy g root doc pack why

-- The path is that of the first table of a list which is too wide for weights, in the document that
-- the bytes are.
pub record IsTooWideAt (g : PlainDtd) (root bytes : List ℕ) (pack : Pack) (path : List ℕ)
    : Type 0 where
  pub doc : PlainDoc Mark
  pub means : DocumentMeans blank_mark root bytes (is_document doc)
  pub first : IsFirstWideTable g (lists_of doc) pack.tables path

-- why there is no answer: the bytes aren't a document, or a table is that of a list which is too
-- wide; want of memory says nothing
abbrev pub RefusesToVerify : PlainDtd → List ℕ → List ℕ → Pack → VerifyError → Type 0
RefusesToVerify g root bytes pack (error.Document e) =
    Refuses (DocumentMeans blank_mark root bytes) e × (e ≢ document.NoMemory)
RefusesToVerify g root bytes pack (error.TooWide path) = IsTooWideAt g root bytes pack path
RefusesToVerify g root bytes pack error.NoMemory = Unit {0}

-- why there is no answer beside a document that was read: a table is that of a list which is too
-- wide; want of memory says nothing
abbrev pub RefusesRead : {M : Type 0} → PlainDtd → PlainDoc M → Pack → VerifyError → Type 0
RefusesRead g doc pack (error.Document e) = ⊥
RefusesRead g doc pack (error.TooWide path) = IsFirstWideTable g (lists_of doc) pack.tables path
RefusesRead g doc pack error.NoMemory = Unit {0}

-- the refusal where a document isn't read for this reason
abbrev pub RefusesUnread : DocError → VerifyError → Type 0
RefusesUnread document.NoMemory v = v ≡ error.NoMemory
RefusesUnread (document.Syntax k) v = v ≡ error.Document (document.Syntax k)
RefusesUnread (document.Mismatch k) v = v ≡ error.Document (document.Mismatch k)
RefusesUnread (document.Entity k) v = v ≡ error.Document (document.Entity k)
RefusesUnread document.Subset v = v ≡ error.Document document.Subset
RefusesUnread document.DoctypeName v = v ≡ error.Document document.DoctypeName
RefusesUnread (document.Deep k) v = v ≡ error.Document (document.Deep k)
RefusesUnread document.Limit v = v ≡ error.Document document.Limit
