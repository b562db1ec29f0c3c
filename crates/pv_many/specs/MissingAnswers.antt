-- What is answered of the elements that are missing in a document: the reply of a session on it to
-- the line `need`.
use Rattle.std.specs.Prelude.{◌≡◌, ℕ, List, ◌++◌, codes, decimal}
use Rattle.pv_dtd.specs.Plain.{PlainDtd}
use Rattle.pv_words.specs.Paths.{path_text}
use Rattle.pv_tree.specs.Plain.{PlainDoc}
use Rattle.pv_tree.specs.declared.nodes.Mark.{Mark}
use Rattle.pv_complete.specs.NeededElements.{IsHeavy, Needs, StopsAtWide}
use Rattle.pv_fresh.specs.Answers.{IsImpossibleAt}
use Rattle.pv_opening.specs.declared.status.Status.TheVariants.{Done}
use Rattle.pv_opening.specs.Course.{Course}
use Rattle.pv_opening.specs.Documents.{PlainOpened}
use Rattle.pv_opening.specs.Possibility.{width_stage}
use Rattle.pv_opening.specs.Response.{PlainResponse, with_line}
use Rattle.pv_opening.specs.Stage.{Behind, Responds}

-- The least number of elements whose insertion makes the document valid. Or it isn't told: no
-- insertions can make it valid, and this is the path of its first impossible list; or some can, and
-- this is the path of the first Possible list that is too wide for weights; or there is none, and
-- more than 1,000,000 elements are missing.
pub data TellsMissing (root : List ℕ) (g : PlainDtd) (doc : PlainDoc Mark) (r : PlainResponse)
    : Type 0 where
  is_needed : (k : ℕ) → Needs g root doc k → r ≡ with_line Done (codes "need " ++ decimal k) →
      TellsMissing root g doc r
  is_impossible : (path : List ℕ) → IsImpossibleAt root g doc path →
      r ≡ with_line Done (codes "no impossible " ++ path_text path) → TellsMissing root g doc r
  is_wide : (path : List ℕ) → StopsAtWide g root doc path →
      r ≡ with_line Done (codes "no wide " ++ path_text path) → TellsMissing root g doc r
  is_heavy : IsHeavy g root doc → r ≡ with_line Done (codes "no heavy") → TellsMissing root g doc r

-- after the opened files: the width of all lists, as where a session begins, and then the number
abbrev pub IsNeedCourse : List ℕ → PlainOpened → Course → Type 0
IsNeedCourse root opened = Behind (width_stage opened.dtd opened.doc)
    (λ _. Responds (TellsMissing root opened.dtd opened.doc))
