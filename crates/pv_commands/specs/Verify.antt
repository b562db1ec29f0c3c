-- What `verify DTD ROOT DOC PACK` responds.
use Rattle.std.specs.Prelude.{◌≡◌, ℕ, List, ◌++◌, codes, decimal}
use Rattle.pv_cert.specs.declared.packs.Pack.{Pack}
use Rattle.pv_table_check.specs.ClosedTables.{AreNarrowTables, IsFirstWideTable}
use Rattle.pv_dtd.specs.Plain.{PlainDtd}
use Rattle.pv_read.specs.Meaning.{DocumentMeans, is_document}
use Rattle.pv_words.specs.Paths.{path_text}
use Rattle.pv_tree.specs.Lists.{lists_of}
use Rattle.pv_tree.specs.Marks.{blank_mark}
use Rattle.pv_tree.specs.Plain.{PlainDoc}
use Rattle.pv_tree.specs.declared.nodes.Mark.{Mark}
use Rattle.pv_verify.specs.Laws.{IsLeastPack}
use Rattle.pv_verify.specs.Tests.{PassesAllTests, IsRejected}
use Rattle.pv_verify.specs.declared.answers.Why.{Why}
use Rattle.pv_verify.specs.declared.answers.Why.TheVariants as why
use Rattle.pv_opening.specs.declared.status.Status.TheVariants.{Done, Limit, Negative}
use Rattle.pv_commands.specs.Certificates.{certificate_stage}
use Rattle.pv_opening.specs.Course.{Course}
use Rattle.pv_opening.specs.Opening.{Files}
use Rattle.pv_commands.specs.PackFiles.{pack_file_stage}
use Rattle.pv_opening.specs.Response.{PlainResponse, with_line}
use Rattle.pv_opening.specs.Stage.{Behind, Responds}

-- the word of a test
abbrev pub test_text : Why → List ℕ
test_text why.Body = codes "body"
test_text why.Marks = codes "marks"
test_text why.Kept = codes "kept"
test_text why.Validity = codes "validity"
test_text why.Closure = codes "closure"
test_text why.Totals = codes "totals"

-- No table of the pack names a list that is too wide for weights, and the pack passes all tests:
-- its body is then the text of a completion by as many elements as are told, the least number whose
-- insertion makes the document valid. Or this is the first test that it fails. Or this is the first
-- path of its tables that names such a list.
pub data TellsAcceptance (root : List ℕ) (g : PlainDtd) (doc : PlainDoc Mark) (pack : Pack)
    (r : PlainResponse) : Type 0 where
  is_accepted : AreNarrowTables g (lists_of doc) pack.tables → PassesAllTests g root doc pack →
      IsLeastPack g root doc pack → r ≡ with_line Done (codes "accepted " ++ decimal pack.total) →
      TellsAcceptance root g doc pack r
  is_rejected : (test : Why) → AreNarrowTables g (lists_of doc) pack.tables →
      IsRejected g root doc pack test →
      r ≡ with_line Negative (codes "rejected " ++ test_text test) →
      TellsAcceptance root g doc pack r
  names_wide : (path : List ℕ) → IsFirstWideTable g (lists_of doc) pack.tables path →
      r ≡ with_line Limit (codes "limit width " ++ path_text path) →
      TellsAcceptance root g doc pack r

-- such a response, of the document that the bytes are
pub record TellsOfPack (root : List ℕ) (g : PlainDtd) (bytes : List ℕ) (pack : Pack)
    (r : PlainResponse) : Type 0 where
  pub doc : PlainDoc Mark
  pub means : DocumentMeans blank_mark root bytes (is_document doc)
  pub tells : TellsAcceptance root g doc pack r

-- after the opened files and the pack: the width of the lists that its tables name, and the tests
abbrev pub IsVerifyCourse : List ℕ → Files → Course → Type 0
IsVerifyCourse root files = Behind (certificate_stage pack_file_stage root files)
    (λ both. Responds (TellsOfPack root both.0.dtd both.0.bytes both.1))
