use Rattle.pv_denial.proofs.ListJudgements.{matched_none}
use Rattle.pv_denial_text.proofs.RowWords.{other-row}
use Rattle.pv_denial_text.proofs.rows.row_at.Goals as goal

pub returns-in-None-clause-row : goal.returns-in-None-clause-row
returns-in-None-clause-row c =
    other-row c.args.bytes.now c.in-Some.line.now c.in-Some.rest.now c.in-Some.ensures (matched_none c.in_ok-row.field-0 _ _ c.in_ok-row.ensures c.in-None.is)
