use Rattle.std.proofs.Common.{length}
use Rattle.pv_productive.specs.PlainForms.{dtd_of}
use Rattle.pv_tree.specs.Lists.{lists_of}
use Rattle.pv_tree.specs.PlainDocs.{plain_doc}
use Rattle.pv_tree.specs.ListWalks.{lists_left}
use Rattle.pv_fresh.proofs.Lists.{left_by}
use Rattle.pv_complete.specs.PlainForms.{made_of}
use Rattle.pv_complete.specs.TableWalks.{MakesTables, PlainMade, StopsTables}
use Rattle.pv_complete.specs.declared.errors.NeedError.{NeedError}
use Rattle.pv_complete.proofs.listings.tabling.table_doc.Given as goal

-- what is made, or stops, among the lists that are left goes on with what was made so far
abbrev pub invariant-loop-lists : goal.invariant-loop-lists
invariant-loop-lists l = record {
  makes : (last : PlainMade) → MakesTables (dtd_of l.layout.grammar.now) l.root (left_by l.lists) l.verdicts.verdicts (made_of l.made) last →
      MakesTables (dtd_of l.layout.grammar.now) l.root (lists_of (plain_doc l.doc)) l.verdicts.verdicts (made_of l.fn.made) last;
  stops : (e : NeedError) → StopsTables (dtd_of l.layout.grammar.now) l.root (left_by l.lists) l.verdicts.verdicts (made_of l.made) e →
      StopsTables (dtd_of l.layout.grammar.now) l.root (lists_of (plain_doc l.doc)) l.verdicts.verdicts (made_of l.fn.made) e;
}

abbrev pub decreases-loop-lists : goal.decreases-loop-lists
decreases-loop-lists l = length (lists_left l.lists)
