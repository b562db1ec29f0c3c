use Rattle.std.proofs.Common.{drop, length, ◌≤◌}
use Rattle.pv_dtd.specs.PlainForms.{plain_dtd}
use Rattle.pv_tree.specs.PlainForms.{forest}
use Rattle.pv_write.specs.PieceForms.{plain_pieces}
use Rattle.pv_write.specs.TaggedTexts.{WritesUpTo}
use Rattle.pv_write.specs.WritingForms.{writing_of}
use Rattle.pv_write.proofs.new_tags.+tagging.Given as goal

-- so far the nodes and the pieces before these were written
abbrev pub invariant-write_list-loop-kid : goal.invariant-write_list-loop-kid
invariant-write_list-loop-kid l = record {
  within : l.next ≤ length l.pieces;
  written : WritesUpTo (plain_dtd l.dtd) (plain_pieces l.pieces) (forest l.kids)
      (plain_pieces (drop l.next l.pieces)) (forest (drop l.kid-index l.kids)) (writing_of l.fn.out)
      (writing_of l.out);
}
