-- What `complete DTD ROOT DOC` responds.
use Rattle.std.specs.Prelude.{◌≡◌, ℕ, List, ◌++◌, codes}
use Rattle.pv_cert.specs.Packs.{IsPackText, lines_of_pack, lines_text}
use Rattle.pv_cert.specs.declared.packs.Pack.{Pack}
use Rattle.pv_table_check.specs.ClosedTables.{AreNarrowTables}
use Rattle.pv_complete.specs.LeastCompletions.{IsLeastCompletion}
use Rattle.pv_complete.specs.GrownTrees.{IsGrownText}
use Rattle.pv_complete.specs.NeededElements.{IsHeavy, StopsAtWide}
use Rattle.pv_complete.specs.Tables.{HasTables, HasTooMany}
use Rattle.pv_dtd.specs.Plain.{PlainDtd}
use Rattle.pv_words.specs.Paths.{path_text}
use Rattle.pv_tree.specs.Lists.{lists_of}
use Rattle.pv_tree.specs.Plain.{PlainDoc}
use Rattle.pv_verify.specs.Tests.{PassesAllTests}
use Rattle.pv_opening.specs.declared.status.Status.TheVariants.{Done, Limit}
use Rattle.pv_opening.specs.Course.{Course}
use Rattle.pv_opening.specs.Documents.{PlainOpened}
use Rattle.pv_opening.specs.Possibility.{possibility_stage}
use Rattle.pv_opening.specs.Response.{PlainResponse, with_line}
use Rattle.pv_opening.specs.Stage.{Behind, Responds}

-- The pack of a least completion: its body is a text of the document with `total` elements
-- inserted, which makes it valid, and no fewer can; all else is written as it was; the marks are
-- the numbers of the new elements in the body; and the tables are those of the document's lists.
pub record IsPackOfCompletion {M : Type 0} (root : List ℕ) (g : PlainDtd) (doc : PlainDoc M)
    (pack : Pack) : Type 0 where
  pub completion : IsLeastCompletion g root doc pack.total pack.marks pack.body
  pub grown : IsGrownText doc pack.body
  pub tables : HasTables g root doc pack.tables

-- `verify` accepts the pack, the limit on bytes aside: its text is one of a pack, no table of it
-- names a list that is too wide for weights, and it passes all tests.
pub record IsVerifiable {M : Type 0} (root : List ℕ) (g : PlainDtd) (doc : PlainDoc M)
    (pack : Pack) : Type 0 where
  pub text : IsPackText (lines_text (lines_of_pack pack)) pack
  pub narrow : AreNarrowTables g (lists_of doc) pack.tables
  pub accepted : PassesAllTests g root doc pack

-- The text of such a pack is printed, of several any, and it is accepted. Or none is: the list at a
-- path is the first Possible one that is too wide for weights; or there is none, and more than
-- 1,000,000 elements are missing; or no more are, and the tables would have more than 8,388,608
-- entries.
pub data TellsPack {M : Type 0} (root : List ℕ) (g : PlainDtd) (doc : PlainDoc M)
    (r : PlainResponse) : Type 0 where
  is_pack : (pack : Pack) → IsPackOfCompletion root g doc pack → IsVerifiable root g doc pack →
      r ≡ record { status = Done; output = lines_text (lines_of_pack pack) } →
      TellsPack root g doc r
  is_wide : (path : List ℕ) → StopsAtWide g root doc path →
      r ≡ with_line Limit (codes "limit width " ++ path_text path) → TellsPack root g doc r
  is_heavy : IsHeavy g root doc → r ≡ with_line Limit (codes "limit weight") →
      TellsPack root g doc r
  has_too_many : HasTooMany g root doc → r ≡ with_line Limit (codes "limit tables") →
      TellsPack root g doc r

-- after the opened files: whether inserting elements can make the document valid, and then the
-- pack
abbrev pub IsCompleteCourse : List ℕ → PlainOpened → Course → Type 0
IsCompleteCourse root opened = Behind (possibility_stage root opened.dtd opened.doc)
    (λ _. Responds (TellsPack root opened.dtd opened.doc))
