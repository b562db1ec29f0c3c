use Rattle.std.proofs.Common.{length}
use Rattle.pv_productive.specs.PlainForms.{dtd_of}
use Rattle.pv_tree.specs.Lists.{lists_of}
use Rattle.pv_tree.specs.PlainDocs.{plain_doc}
use Rattle.pv_tree.specs.ListWalks.{lists_left}
use Rattle.pv_write.specs.PieceForms.{plain_lists}
use Rattle.pv_fresh.proofs.Lists.{left_by}
use Rattle.pv_missing.specs.Verdicts.{AreVerdicts}
use Rattle.pv_complete.specs.ListPieces.{HaveFound}
use Rattle.pv_complete.specs.NeededElements.{AreLightLists}
use Rattle.pv_complete.proofs.writing.by_verdict.pieces_of_lists.Given as goal

-- so far the pieces of the lists before those that are left are found
abbrev pub invariant-loop-lists : goal.invariant-loop-lists
invariant-loop-lists l = record {
  found : AreVerdicts (dtd_of l.layout.grammar.now) l.root (lists_of (plain_doc l.doc))
      l.verdicts.verdicts →
      HaveFound (dtd_of l.layout.grammar.now) l.root (lists_of (plain_doc l.doc)) (left_by l.lists)
      l.verdicts.verdicts l.used (plain_lists l.pieces.items);
  light : AreLightLists (dtd_of l.layout.grammar.now) l.root (lists_of (plain_doc l.doc)) →
      AreLightLists (dtd_of l.layout.grammar.now) l.root (left_by l.lists);
}

abbrev pub decreases-loop-lists : goal.decreases-loop-lists
decreases-loop-lists l = length (lists_left l.lists)
