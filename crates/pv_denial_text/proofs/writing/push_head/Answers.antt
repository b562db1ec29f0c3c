use Rattle.pv_denial_text.proofs.WrittenLines.{head-written}
use Rattle.pv_denial_text.proofs.writing.push_head.Goals as goal

pub returns-clause-written : goal.returns-clause-written
returns-clause-written c =
    head-written c.args.denial.now.path c.args.denial.now.cause c.args.text.now.items _ _ _ _ _ c.in_ok-extend_from_slice.ensures.items (rw c.places-places.ensures at c.in_ok-push_path.ensures)
    c.in_ok-extend_from_slice-2.ensures.items (rw c.cause_word.ensures at c.in_ok-extend_from_slice-3.ensures.items) c.in_ok-push.ensures.items
