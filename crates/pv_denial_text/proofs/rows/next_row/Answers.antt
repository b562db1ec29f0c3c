use Rattle.std.proofs.Common.{sym, true≢false, ◌∙◌}
use Rattle.pv_denial_text.proofs.RowLines.{none-follows}
use Rattle.pv_denial_text.proofs.rows.next_row.Goals as goal

pub returns-then-not-follows-clause-row : goal.returns-then-not-follows-clause-row
returns-then-not-follows-clause-row c =
    none-follows c.args.last c.args.bytes.now c.in-Some.next c.in-Some.rest.now (rw c.in-Some.is at c.in_ok-next.ensures.row)
    (λ f. true≢false (sym (c.follows.ensures.1 f) ∙ c.if-not-follows.true))
