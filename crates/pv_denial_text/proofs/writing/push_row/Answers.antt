use Rattle.pv_denial_text.proofs.WrittenLines.{row-written}
use Rattle.pv_denial_text.proofs.writing.push_row.Goals as goal

pub returns-clause-written : goal.returns-clause-written
returns-clause-written c =
    row-written c.args.row.now c.args.text.now.items _ _ _ _
    (rw c.kind_word.ensures at c.in_ok-extend_from_slice.ensures.items)
    (rw c.site_number-number.ensures at (rw c.from.ensures at c.in_ok-push_next_number.ensures))
    (rw c.as_slice-values.ensures at c.in_ok-push_numbers.ensures) c.in_ok-push.ensures.items
