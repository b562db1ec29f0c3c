-- What the answers of `pvmany` are in other programs, as a law.
use Rattle.std.specs.Prelude.{ℕ, List, [], true, codes}
use Rattle.pv_dtd.specs.Plain.{PlainDtd}
use Rattle.pv_tree.specs.Marks.{unmarked_doc}
use Rattle.pv_tree.specs.Plain.{PlainDoc}
use Rattle.pv_tree.specs.declared.nodes.Mark.{Mark}
use Rattle.pv_session.specs.Sessions.{session_on}
use Rattle.pv_opening.specs.Course.{responds}
use Rattle.pv_opening.specs.Response.{PlainResponse}
use Rattle.pv_conversation.specs.Session.{EndsSession}
use Rattle.pv_many.specs.MissingAnswers.{TellsMissing}

-- A session that begins on the document, and whose script is the line `need`, may end with each
-- response that is answered of the elements that are missing in it.
abbrev pub NeedIsReply : Type 0
NeedIsReply = (root : List ℕ) (g : PlainDtd) (doc : PlainDoc Mark) (r : PlainResponse) →
    TellsMissing root g doc r →
    EndsSession (session_on g root (unmarked_doc doc)) (codes "need") [] true (responds r)
