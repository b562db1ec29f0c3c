use Rattle.std.proofs.lemmas.Result.{err_from_is_err_and}
use Rattle.pv_opening.specs.Documents.{document_stage}
use Rattle.pv_opening.specs.Opening.{fetching_stage}
use Rattle.pv_opening.specs.Returns.{plain_fetched, plain_opened}
use Rattle.pv_opening.proofs.FetchedFiles.{behind_over, reading_counts, stopped_over}
use Rattle.pv_opening.proofs.opening.open_files.Goals as goal

pub returns-in_err-fetched-clause-over : goal.returns-in_err-fetched-clause-over
returns-in_err-fetched-clause-over g c =
    let root = c.args.named.now.root.now in
    let p = err_from_is_err_and c.from_residual.result c.from_residual.ensures.1 in
    rw (p.1, p.2) (stopped_over _ plain_fetched fetching_stage plain_opened (λ both. document_stage root both.0 both.1) _ _ c.in_err-fetched.field-0.0 c.in_err-fetched.ensures.over)

pub returns-clause-over : goal.returns-clause-over
returns-clause-over g c =
    let root = c.args.named.now.root.now in
    let fetched = c.in_ok-fetched.fetched in
    let both = plain_fetched fetched in
    behind_over _ plain_fetched fetching_stage plain_opened (λ b. document_stage root b.0 b.1) _ _ fetched c.open_document.result c.in_ok-fetched.ensures.over c.open_document.ensures.returns
    (reading_counts plain_opened (document_stage root both.0 both.1) 0 _ c.open_document.result (λ never. never) c.open_document.ensures.returns)
