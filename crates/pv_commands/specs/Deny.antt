-- What `deny DTD ROOT DOC TABLE` responds.
use Rattle.std.specs.Prelude.{◌≡◌, ℕ, List, ◌++◌, codes}
use Rattle.pv_denial.specs.Judgements.{IsDenialJudged, IsTooWideFor}
use Rattle.pv_denial.specs.declared.denials.Denial.{Denial}
use Rattle.pv_denial.specs.declared.denials.Flaw.{Flaw}
use Rattle.pv_denial.specs.declared.denials.Flaw.TheVariants as flaw
use Rattle.pv_denial.specs.declared.denials.Judged.TheVariants as judged
use Rattle.pv_dtd.specs.Plain.{PlainDtd}
use Rattle.pv_missing.specs.Completions.{IsPotentiallyValid}
use Rattle.pv_words.specs.Paths.{path_text}
use Rattle.pv_tree.specs.Plain.{PlainDoc}
use Rattle.pv_tree.specs.View.{view}
use Rattle.pv_opening.specs.declared.status.Status.TheVariants.{Done, Limit, Negative}
use Rattle.pv_commands.specs.Certificates.{certificate_stage}
use Rattle.pv_opening.specs.Course.{Course}
use Rattle.pv_commands.specs.DenialFiles.{denial_file_stage}
use Rattle.pv_opening.specs.Opening.{Files}
use Rattle.pv_opening.specs.Response.{PlainResponse, with_line}
use Rattle.pv_opening.specs.Stage.{Behind, Responds}

-- the word of a test
abbrev pub flaw_text : Flaw → List ℕ
flaw_text flaw.List = codes "list"
flaw_text flaw.Cause = codes "cause"
flaw_text flaw.Table = codes "table"
flaw_text flaw.Reached = codes "reached"

-- The denial passes all tests: no insertions can make the document valid, and its list is the one
-- at this path. Or this is the first test that it fails. Or its list is too wide for its word to be
-- judged.
pub data TellsJudgement {M : Type 0} (root : List ℕ) (g : PlainDtd) (doc : PlainDoc M)
    (denial : Denial) (r : PlainResponse) : Type 0 where
  is_denied : IsDenialJudged g root doc denial judged.Denied →
      ¬ IsPotentiallyValid g root (view doc.root) →
      r ≡ with_line Done (codes "denied " ++ path_text denial.path) →
      TellsJudgement root g doc denial r
  is_rejected : (f : Flaw) → IsDenialJudged g root doc denial (judged.Rejected f) →
      r ≡ with_line Negative (codes "rejected " ++ flaw_text f) →
      TellsJudgement root g doc denial r
  is_too_wide : IsTooWideFor g doc denial →
      r ≡ with_line Limit (codes "limit width " ++ path_text denial.path) →
      TellsJudgement root g doc denial r

-- after the opened files and the denial: its tests
abbrev pub IsDenyCourse : List ℕ → Files → Course → Type 0
IsDenyCourse root files = Behind (certificate_stage denial_file_stage root files)
    (λ both. Responds (TellsJudgement root both.0.dtd both.0.doc both.1))
