use Rattle.std.proofs.Common.{List, length, ◌++◌}
use Rattle.std.specs.List.{AllByRecursion}
use Rattle.pv_productive.specs.PlainForms.{dtd_of}
use Rattle.pv_tree.specs.Lists.{lists_of}
use Rattle.pv_tree.specs.PlainDocs.{plain_doc}
use Rattle.pv_tree.specs.ListWalks.{lists_left}
use Rattle.pv_tree.specs.declared.nodes.Verdict.{Verdict}
use Rattle.pv_missing.specs.Verdicts.{AreVerdicts}
use Rattle.pv_missing.specs.Widths.{IsListForVerdict}
use Rattle.pv_fresh.proofs.Lists.{Holds, left_by}
use Rattle.pv_fresh.proofs.judging.judge_lists.Given as goal

-- the verdicts of the lists that are left, behind those so far, are those of all
abbrev pub invariant-loop-lists : goal.invariant-loop-lists
invariant-loop-lists l = record {
  fits : AllByRecursion (IsListForVerdict (dtd_of l.judge)) (left_by l.lists);
  hold : AllByRecursion Holds (left_by l.lists);
  judged : (last : List Verdict) → AreVerdicts (dtd_of l.judge) l.root (left_by l.lists) last → AreVerdicts (dtd_of l.judge) l.root (lists_of (plain_doc l.doc)) (l.verdicts.items ++ last);
}

abbrev pub decreases-loop-lists : goal.decreases-loop-lists
decreases-loop-lists l = length (lists_left l.lists)
