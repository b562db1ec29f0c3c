-- What `check DTD ROOT DOC` responds.
use Rattle.std.specs.Prelude.{ℕ, List}
use Rattle.pv_opening.specs.Course.{Course}
use Rattle.pv_opening.specs.Documents.{PlainOpened}
use Rattle.pv_opening.specs.Possibility.{TellsPossibility, width_stage}
use Rattle.pv_opening.specs.Stage.{Behind, Responds}

-- after the opened files: the width of all lists, and then the verdict
abbrev pub IsCheckCourse : List ℕ → PlainOpened → Course → Type 0
IsCheckCourse root opened = Behind (width_stage opened.dtd opened.doc)
    (λ _. Responds (TellsPossibility root opened.dtd opened.doc))
