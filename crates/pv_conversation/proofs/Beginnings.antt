-- A session is begun.
use Rattle.std.proofs.Common.{◌≡◌, ℕ, List, refl, subst}
use Rattle.pv_dtd.specs.Plain.{PlainDtd}
use Rattle.pv_session.specs.Sessions.{PlainSession, session_on}
use Rattle.pv_tree.specs.Marks.{unmarked_doc}
use Rattle.pv_tree.specs.Plain.{PlainDoc}
use Rattle.pv_tree.specs.declared.nodes.Mark.{Mark}
use Rattle.pv_opening.specs.Possibility.{AreAllNarrow}
use Rattle.pv_conversation.specs.Session.{guarding_stage}

-- where no list of a document is too wide, for this DTD under another name
pub session_begins : (root : List ℕ) (g d : PlainDtd) (doc : PlainDoc Mark) (session : PlainSession) → g ≡ d → AreAllNarrow g doc →
    session ≡ session_on g root (unmarked_doc doc) → (guarding_stage root d doc).Opens session 0
session_begins root g d doc session same narrow is =
    subst (λ (h : PlainDtd). (guarding_stage root h doc).Opens session 0) same (tt, 0, 0, (narrow, refl), (is, refl), refl)
