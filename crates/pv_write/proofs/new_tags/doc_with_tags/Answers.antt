use Rattle.std.proofs.Common.{refl}
use Rattle.pv_write.specs.PieceForms.{plain_lists, plain_pieces}
use Rattle.pv_write.specs.WritingForms.{writing_of}
use Rattle.pv_write.proofs.EventLists.{appends_after, whole_text}
use Rattle.pv_write.proofs.new_tags.doc_with_tags.Goals as goal

pub returns : goal.returns
returns c =
    let all = rw c.from_ref.ensures.value at c.in_ok-write_list.ensures in
    let before = rw c.as_slice.ensures at c.in_ok-bytes.ensures.written in
    let after = rw c.as_slice-2.ensures at c.in_ok-bytes-2.ensures.written in
    let first = appends_after (writing_of c.new-out.result)
    (writing_of c.take_pieces-pieces.new.self) (writing_of c.bytes.new.self) _
    (rw c.take_pieces-pieces.ensures.body refl)
    (rw c.take_pieces-pieces.ensures.marks refl) c.take_pieces-pieces.ensures.begun before in
    let text = whole_text (writing_of c.new-out.result) (writing_of c.bytes.new.self)
    (writing_of c.write_list.new.out) (writing_of c.bytes-2.new.self)
    c.args.doc.now.before c.args.doc.now.after all.events
    c.new-out.ensures.body c.new-out.ensures.marks c.new-out.ensures.begun first all.appends after
    in
    record {
      pieces = plain_pieces c.take_pieces-pieces.result.now;
      below = plain_lists c.take_pieces-pieces.new.self.lists.now;
      left = plain_lists c.write_list.new.out.lists.now;
      events = all.events;
      takes = rw c.new-out.ensures.lists at c.take_pieces-pieces.ensures.taken;
      fills = let f = all.fills in rw c.bytes.ensures.lists at f;
      are_marks = text.0;
      is_body = text.1;
    }
