-- How many lists a command on a document judged.
use Rattle.std.proofs.Common.{◌≡◌, ℕ, List, length, subst}
use Rattle.pv_dtd.specs.Plain.{PlainDtd}
use Rattle.pv_tree.specs.Lists.{lists_of}
use Rattle.pv_opening.specs.Course.{RunEnding}
use Rattle.pv_opening.specs.Documents.{PlainOpened, document_stage}
use Rattle.pv_opening.specs.JudgedCounts.{CountsJudged, CountsNoMore, judging_stage, lists_judged}
use Rattle.pv_opening.specs.Possibility.{width_stage}
use Rattle.pv_opening.specs.Stage.{beside}
use Rattle.pv_opening.proofs.JudgedLists.{judged_beside, judged_second}

-- what was counted of a document that was opened, by a grammar of its DTD
pub judged_document : (root : List ℕ) (g d : PlainDtd) (bytes : List ℕ) (opened : PlainOpened)
    (ending : RunEnding) (before after : ℕ) → (document_stage root g bytes).Opens opened 0 →
    d ≡ opened.dtd →
    CountsJudged (width_stage d opened.doc) (λ _. length (lists_of opened.doc)) CountsNoMore ending
    before after →
    CountsJudged (judging_stage root g bytes) lists_judged CountsNoMore ending before after
judged_document root g d bytes opened ending before after opens same counts =
    let here = subst (λ (h : PlainDtd). CountsJudged (width_stage h opened.doc)
    (λ _. length (lists_of opened.doc)) CountsNoMore ending before after) same counts in
    judged_second (document_stage root g bytes) (λ o. beside o (width_stage o.dtd o.doc))
    lists_judged CountsNoMore opened 0 ending before after opens
    (judged_beside opened (width_stage opened.dtd opened.doc) lists_judged CountsNoMore ending
    before after here)
