use Rattle.pv_denial.proofs.ListJudgements.{matched_none}
use Rattle.pv_denial_text.proofs.RowWords.{no-row-values}
use Rattle.pv_denial_text.proofs.rows.row_in.Goals as goal

pub returns-in-None : goal.returns-in-None
returns-in-None c =
    no-row-values c.args.line.now c.in-Some.site c.in-Some.behind.now c.in-Some.ensures (matched_none c.in_ok-values.field-0 _ _ c.in_ok-values.ensures c.in-None.is)
