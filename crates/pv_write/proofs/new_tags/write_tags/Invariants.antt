use Rattle.std.proofs.Common.{drop}
use Rattle.pv_dtd.specs.PlainForms.{plain_dtd}
use Rattle.pv_tree.specs.Plain.{Forest}
use Rattle.pv_tree.specs.declared.nodes.Mark.{Mark}
use Rattle.pv_write.specs.PieceForms.{plain_pieces}
use Rattle.pv_write.specs.TaggedTexts.{WritesUpTo}
use Rattle.pv_write.specs.WritingForms.{writing_of}
use Rattle.pv_write.proofs.new_tags.write_tags.Given as goal

-- the tags so far are written
abbrev pub invariant-loop-place : goal.invariant-loop-place
invariant-loop-place l =
    (k : Forest Mark) → WritesUpTo (plain_dtd l.dtd) (plain_pieces (drop l.from l.pieces)) k
    (plain_pieces (drop l.place l.pieces)) k (writing_of l.fn.out) (writing_of l.out)
