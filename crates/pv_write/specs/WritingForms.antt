-- The plain form of what is written so far.
use Rattle.pv_write.specs.PieceForms.{plain_lists}
use Rattle.pv_write.specs.TaggedTexts.{PlainWriting}
use Rattle.pv_write.specs.declared.tagged_text.Writing.{Writing}

abbrev pub writing_of : Writing → PlainWriting
writing_of w = record {
  body = w.body.items;
  marks = w.marks.items;
  begun = w.begun;
  lists = plain_lists w.lists.now;
}
