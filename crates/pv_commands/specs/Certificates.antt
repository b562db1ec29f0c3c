-- The files of a command on a certificate: a DTD, a document, and the certificate after them.
use Rattle.std.specs.Prelude.{ℕ, List, Option}
use Rattle.pv_opening.specs.Documents.{PlainOpened}
use Rattle.pv_opening.specs.Opening.{Files, file_at, opening_stage}
use Rattle.pv_opening.specs.Stage.{Stage, beside, followed_by}

-- Opening the DTD and the document, and then fetching and reading the certificate.
abbrev pub certificate_stage : {X : Type 0} → (Option (List ℕ) → Stage X) → List ℕ → Files →
    Stage (PlainOpened × X)
certificate_stage reading root files =
    followed_by (opening_stage root files) (λ opened. beside opened (reading (file_at 2 files)))
