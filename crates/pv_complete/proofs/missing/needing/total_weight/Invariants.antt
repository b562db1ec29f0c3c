use Rattle.std.proofs.Common.{List, length, ℕ}
use Rattle.pv_productive.specs.PlainForms.{dtd_of}
use Rattle.pv_tree.specs.Lists.{lists_of}
use Rattle.pv_tree.specs.PlainDocs.{plain_doc}
use Rattle.pv_tree.specs.ListWalks.{lists_left}
use Rattle.pv_fresh.proofs.Lists.{left_by}
use Rattle.pv_complete.specs.KnownWeights.{AreKnown}
use Rattle.pv_complete.specs.Loads.{AddsUp, PlainLoad, StopsAtList}
use Rattle.pv_complete.specs.PlainForms.{load_of}
use Rattle.pv_complete.proofs.missing.needing.total_weight.Given as goal

-- what is added, or stops, among the lists that are left goes on with what was added so far
abbrev pub invariant-loop-lists : goal.invariant-loop-lists
invariant-loop-lists l = record {
  known : AreKnown (dtd_of l.layout.grammar.now) l.known;
  adds : (last : PlainLoad) → AddsUp (dtd_of l.layout.grammar.now) l.root (left_by l.lists) l.verdicts.verdicts (load_of l.load) last →
      AddsUp (dtd_of l.layout.grammar.now) l.root (lists_of (plain_doc l.doc)) l.verdicts.verdicts (load_of l.initial.load) last;
  stops : (path : List ℕ) → StopsAtList (dtd_of l.layout.grammar.now) l.root (left_by l.lists) l.verdicts.verdicts (load_of l.load) path →
      StopsAtList (dtd_of l.layout.grammar.now) l.root (lists_of (plain_doc l.doc)) l.verdicts.verdicts (load_of l.initial.load) path;
}

abbrev pub decreases-loop-lists : goal.decreases-loop-lists
decreases-loop-lists l = length (lists_left l.lists)
