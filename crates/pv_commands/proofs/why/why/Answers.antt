use Rattle.std.proofs.Common.{refl}
use Rattle.std.proofs.lemmas.Result.{err_from_is_err_and}
use Rattle.pv_dtd.specs.PlainForms.{plain_dtd}
use Rattle.pv_opening.specs.Documents.{document_stage}
use Rattle.pv_opening.specs.JudgedCounts.{CountsNoMore, lists_judged}
use Rattle.pv_opening.specs.Possibility.{width_stage}
use Rattle.pv_opening.specs.Returns.{plain_opened}
use Rattle.pv_opening.specs.Stage.{beside}
use Rattle.pv_commands.specs.Why.{IsWhyCourse}
use Rattle.pv_commands.proofs.CommandCounts.{judged_document}
use Rattle.pv_opening.proofs.JudgedLists.{stops_first}
use Rattle.pv_opening.proofs.Stages.{found_behind, stop_found}
use Rattle.pv_commands.proofs.why.why.Goals as goal

pub returns-in_err-dtd-clause-finds : goal.returns-in_err-dtd-clause-finds
returns-in_err-dtd-clause-finds g c =
    let root = c.args.root.now in
    let stage = document_stage root (plain_dtd c.args.fetched.dtd) c.args.fetched.bytes.items in
    let p = err_from_is_err_and c.from_residual.result c.from_residual.ensures.1 in
    rw (p.1, p.2)
    (stop_found stage (IsWhyCourse root) c.in_err-dtd.field-0.0 (λ never. never)
    c.in_err-dtd.ensures.returns)

pub returns-in_err-dtd-clause-checks : goal.returns-in_err-dtd-clause-checks
returns-in_err-dtd-clause-checks g c =
    let root = c.args.root.now in
    let stage = document_stage root (plain_dtd c.args.fetched.dtd) c.args.fetched.bytes.items in
    let stop = c.in_err-dtd.field-0.0 in
    let p = err_from_is_err_and c.from_residual.result c.from_residual.ensures.1 in
    rw (p.1, p.2)
    (stops_first stage (λ o. beside o (width_stage o.dtd o.doc)) lists_judged CountsNoMore 0 stop _
    _ c.in_err-dtd.ensures.returns refl)

pub returns-clause-finds : goal.returns-clause-finds
returns-clause-finds g c =
    let root = c.args.root.now in
    let both = plain_opened c.in_ok-dtd.field-0 in
    let stage = document_stage root (plain_dtd c.args.fetched.dtd) c.args.fetched.bytes.items in
    found_behind stage (IsWhyCourse root) both c.tell_for-response.result
    c.in_ok-dtd.ensures.returns (c.tell_for-response.ensures.tells both refl refl)

pub returns-clause-checks : goal.returns-clause-checks
returns-clause-checks g c =
    judged_document c.args.root.now _ _ _ (plain_opened c.in_ok-dtd.field-0) _ _ _
    c.in_ok-dtd.ensures.returns refl c.tell_for-response.ensures.counts
