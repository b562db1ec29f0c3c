use Rattle.pv_cert.proofs.WrittenPacks.{pack-written}
use Rattle.pv_cert.proofs.writing.write_pack.Goals as goal

pub returns-clause-spelled : goal.returns-clause-spelled
returns-clause-spelled c =
    pack-written c.args.pack.now _ _ _ _ _ _ (rw c.new-text.ensures.items at
    c.in_ok-extend_from_slice.ensures.items) c.in_ok-push_number_line.ensures
    (rw c.as_slice.ensures at c.in_ok-push_marks.ensures)
    (rw c.as_slice-2.ensures at c.in_ok-push_counted.ensures) (rw c.as_slice-3.ensures at c.in_ok-push_tables.ensures) c.in_ok-extend_from_slice-2.ensures.items

pub returns-clause-is_text : goal.returns-clause-is_text
returns-clause-is_text c = λ are. record {
  are_lines = are;
  spelled = pack-written c.args.pack.now _ _ _ _ _ _ (rw c.new-text.ensures.items at
      c.in_ok-extend_from_slice.ensures.items) c.in_ok-push_number_line.ensures
      (rw c.as_slice.ensures at c.in_ok-push_marks.ensures)
      (rw c.as_slice-2.ensures at c.in_ok-push_counted.ensures) (rw c.as_slice-3.ensures at c.in_ok-push_tables.ensures) c.in_ok-extend_from_slice-2.ensures.items;
}
