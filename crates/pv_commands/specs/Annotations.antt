-- The files of a DTD and a text, as they are opened.
use Rattle.std.specs.Prelude.{ℕ, List, Option}
use Rattle.pv_dtd.specs.Plain.{PlainDtd}
use Rattle.pv_dtd.specs.PlainForms.{plain_dtd}
use Rattle.pv_dtd.specs.declared.dtd.Dtd.{Dtd}
use Rattle.pv_opening.specs.Opening.{IsFile, dtd_file_stage}
use Rattle.pv_opening.specs.Stage.{Stage, beside, followed_by}
use Rattle.pv_commands.specs.Standoff.{text_file_stage}

-- the files of these two names
abbrev pub AreTwo : List ℕ → List ℕ → Option (List (List ℕ × List ℕ)) →
    Option (List ℕ) × Option (List ℕ) → Type 0
AreTwo dtd text told files = IsFile told dtd files.0 × IsFile told text files.1

-- a DTD and the units of a text, seen as plain data
abbrev pub plain_two : Dtd × List (List ℕ) → PlainDtd × List (List ℕ)
plain_two both = (plain_dtd both.0, both.1)

-- opening both
abbrev pub two_stage : Option (List ℕ) × Option (List ℕ) → Stage (PlainDtd × List (List ℕ))
two_stage files =
    followed_by (dtd_file_stage files.0) (λ g. beside g (text_file_stage files.1))
