use Rattle.std.proofs.Common.{Some, ap, slice_get, sym, ◌∙◌, ◌≡◌}
use Rattle.std.proofs.lemmas.Option.{slice_get-get_or}
use Rattle.pv_table_check.proofs.EntryOrder.{at_contains}
use Rattle.pv_table_check.proofs.LeastValues.{all_in_more}
use Rattle.pv_table_check.proofs.least.gather.Goals as goal
use Rattle.pv_table_check.proofs.least.gather.Goals.{in-Some+in_ok-push, in_default}

pub loop-cell-preserved : goal.loop-cell-preserved
loop-cell-preserved c = elim c.match-get.branch [
  | in-Some+in_ok-push w ↦
      let h = w.in-Some.ensures.lookup in
      let es = c.args.entries.now in
      let at : slice_get es c.index.result.now ≡ Some w.in-Some.entry.now = slice_get-get_or es c.index.result.now w.in-Some.entry.now h.3.0 ∙ ap Some (sym h.1) in
      rw (w.found-is, w.in_ok-push.ensures.items) (all_in_more es c.loop-cell.found.items w.in-Some.entry.now c.loop-cell.invariant (at_contains es w.in-Some.entry.now c.index.result.now at))
  | in_default w ↦ rw w.found-is c.loop-cell.invariant
]
