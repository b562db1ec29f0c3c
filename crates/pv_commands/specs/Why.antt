-- What `why DTD ROOT DOC` responds.
use Rattle.std.specs.Prelude.{◌≡◌, ℕ, List, codes}
use Rattle.pv_denial.specs.declared.denials.Denial.{Denial}
use Rattle.pv_denial_text.specs.Texts.{lines_of_denial, lines_text}
use Rattle.pv_deny.specs.DocumentDenials.{HasTooMany, IsDenialOf}
use Rattle.pv_dtd.specs.Plain.{PlainDtd}
use Rattle.pv_missing.specs.Completions.{IsPotentiallyValid}
use Rattle.pv_tree.specs.Plain.{PlainDoc}
use Rattle.pv_tree.specs.View.{view}
use Rattle.pv_opening.specs.declared.status.Status.TheVariants.{Done, Limit, Negative}
use Rattle.pv_opening.specs.Course.{Course}
use Rattle.pv_opening.specs.Documents.{PlainOpened}
use Rattle.pv_opening.specs.Possibility.{width_stage}
use Rattle.pv_opening.specs.Response.{PlainResponse, with_line}
use Rattle.pv_opening.specs.Stage.{Behind, Responds}

-- No insertions can make the document valid, and this is the text of what denies it: its first
-- impossible list, the cause, and where that is its word the furthest places of all sites. Or its
-- rows would have too many values. Or inserting elements can make the document valid.
pub data TellsWhy {M : Type 0} (root : List ℕ) (g : PlainDtd) (doc : PlainDoc M)
    (r : PlainResponse) : Type 0 where
  is_denied : (denial : Denial) → ¬ IsPotentiallyValid g root (view doc.root) →
      IsDenialOf g root doc denial →
      r ≡ record { status = Done; output = lines_text (lines_of_denial denial) } →
      TellsWhy root g doc r
  has_too_many : ¬ IsPotentiallyValid g root (view doc.root) → HasTooMany g root doc →
      r ≡ with_line Limit (codes "limit tables") → TellsWhy root g doc r
  is_possible : IsPotentiallyValid g root (view doc.root) →
      r ≡ with_line Negative (codes "possible") → TellsWhy root g doc r

-- after the opened files: the width of all lists, and then why the document is impossible
abbrev pub IsWhyCourse : List ℕ → PlainOpened → Course → Type 0
IsWhyCourse root opened = Behind (width_stage opened.dtd opened.doc)
    (λ _. Responds (TellsWhy root opened.dtd opened.doc))
