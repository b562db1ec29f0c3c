use Rattle.std.proofs.Common.{◌≡◌, ◌++◌, ◌∙◌, ap, codes}
use Rattle.pv_productive.specs.PlainForms.{dtd_of}
use Rattle.pv_words.specs.Paths.{path_text}
use Rattle.pv_tree.specs.PlainDocs.{plain_doc}
use Rattle.pv_commands.specs.Deny.{TellsJudgement, is_denied, is_rejected, is_too_wide}
use Rattle.pv_opening.specs.Response.{with_line}
use Rattle.pv_opening.specs.declared.status.Status.TheVariants.{Done, Limit, Negative}
use Rattle.pv_opening.proofs.Stages.{stops_as}
use Rattle.pv_commands.proofs.deny.tell_by.Goals as goal

pub returns-in_ok-with_path-in-Ok-Denied : goal.returns-in_ok-with_path-in-Ok-Denied
returns-in_ok-with_path-in-Ok-Denied c =
    let root = c.args.root.now in
    let d = dtd_of c.args.grammar.now in
    let doc = plain_doc c.args.doc.now in
    let denial = c.args.denial.now in
    let judges = rw c.in-Ok-Denied.field-0-is at c.in-Ok-Denied.ensures.judged in
    let proper = rw c.dtd.ensures at c.proper_dtd_law.ensures in
    is_denied judges
    (c.denied_law.ensures d root doc denial proper c.proper_doc_law.ensures judges)
    (c.in_ok-with_path-in-Ok-Denied.ensures
    ∙ ap (λ path. with_line Done (codes "denied " ++ path_text path)) c.places.ensures)

pub returns-in_ok-with_text-in-Ok-Rejected : goal.returns-in_ok-with_text-in-Ok-Rejected
returns-in_ok-with_text-in-Ok-Rejected c =
    let judges = rw c.in-Ok-Rejected.field-0-is at c.in-Ok-Rejected.ensures.judged in
    is_rejected c.in-Ok-Rejected.flaw judges
    (c.in_ok-with_text-in-Ok-Rejected.ensures
    ∙ ap (λ word. with_line Negative (codes "rejected " ++ word)) c.flaw_text.ensures)

pub returns-in-Err-TooWide : goal.returns-in-Err-TooWide
returns-in-Err-TooWide c =
    let d = dtd_of c.args.grammar.now in
    let denial = c.args.denial.now in
    let wide = c.in-Err-TooWide.ensures.wide c.in-Err-TooWide.field-0-is in
    stops_as (λ r. r ≡ with_line Limit (codes "limit width " ++ path_text denial.path))
    (TellsJudgement c.args.root.now d (plain_doc c.args.doc.now) denial) c.refuse_path.result
    (λ r is. is_too_wide wide is) (rw c.places-in-Err-TooWide.ensures at c.refuse_path.ensures)
