use Rattle.pv_denial_text.proofs.WrittenLines.{denial-lines, denial-written}
use Rattle.pv_denial_text.proofs.writing.write_denial.Goals as goal

pub returns-clause-spelled : goal.returns-clause-spelled
returns-clause-spelled c =
    denial-written c.args.denial.now _ _ _ (rw c.new-text.ensures.items at
    c.in_ok-push_head.ensures.written)
    (rw c.as_slice.ensures at c.in_ok-push_rows.ensures.written) c.in_ok-extend_from_slice.ensures.items

pub returns-clause-again : goal.returns-clause-again
returns-clause-again c = λ order short. (
  short,
  record {
    are_lines = denial-lines c.args.denial.now c.push_head.ensures.in_range order (rw c.as_slice.ensures at c.in_ok-push_rows.ensures.in_range);
    spelled = denial-written c.args.denial.now _ _ _ (rw c.new-text.ensures.items at
        c.in_ok-push_head.ensures.written)
        (rw c.as_slice.ensures at c.in_ok-push_rows.ensures.written) c.in_ok-extend_from_slice.ensures.items;
  },
  order.few,
)

pub returns-clause-is_text : goal.returns-clause-is_text
returns-clause-is_text c = λ are. record {
  are_lines = are;
  spelled = denial-written c.args.denial.now _ _ _ (rw c.new-text.ensures.items at
      c.in_ok-push_head.ensures.written)
      (rw c.as_slice.ensures at c.in_ok-push_rows.ensures.written) c.in_ok-extend_from_slice.ensures.items;
}
