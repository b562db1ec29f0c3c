use Rattle.std.proofs.Common.{drop, true, ◌*◌, ◌+◌, ◌≡◌, ◌≤◌}
use Rattle.pv_io.specs.Causes.{CountStays}
use Rattle.pv_tree.specs.Plain.{depth_of_all, nodes_in, nodes_in_all}
use Rattle.pv_tree.specs.PlainForms.{forest, plain}
use Rattle.pv_conversation.specs.VerdictLines.{verdict_lines_from}
use Rattle.pv_conversation.proofs.HeldReplies.{PutSoFar}
use Rattle.pv_conversation.proofs.verdict_lines.+put.Given as goal

-- the lines of the first nodes were put, and those of the rest are left
abbrev pub invariant-put_kids-loop-i : goal.invariant-put_kids-loop-i
invariant-put_kids-loop-i g l = record {
  same_line : l.line ≡ l.fn.line;
  few_nodes : nodes_in_all (forest (drop l.i l.kids)) ≤ nodes_in_all (forest l.kids);
  shallow : depth_of_all (forest (drop l.i l.kids)) ≤ depth_of_all (forest l.kids);
  goes : PutSoFar (g.K.Sink.written l.fn.out) (g.K.Sink.written l.out) l.fn.buffer l.buffer
      (verdict_lines_from l.fn.line 0 (forest l.kids)) (verdict_lines_from l.fn.line l.i
      (forest (drop l.i l.kids)));
  is_ready : g.K.Sink.ready l.out ≡ true;
  stays : CountStays (g.K.Sink.faults l.fn.out) (g.K.Sink.faults l.out);
}

abbrev pub decreases-put_lists : goal.decreases-put_lists
decreases-put_lists g l = 2 * nodes_in (plain l.node.now)

abbrev pub decreases-put_kids : goal.decreases-put_kids
decreases-put_kids g l = 2 * nodes_in_all (forest l.kids.now) + 1
