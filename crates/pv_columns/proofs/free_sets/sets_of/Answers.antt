use Rattle.std.proofs.Common.{None, Some, arith, get_or, length, sym, ◌+◌, ◌∙◌, ◌≡◌}
use Rattle.std.proofs.lemmas.Grind.{common_steps}
use Rattle.pv_columns.proofs.SetsTaken.{keep_same, one_over, placed}
use Rattle.pv_columns.proofs.free_sets.sets_of.Goals.{then-is_marked+in_ok-place_set, else-is_marked}
use Rattle.pv_columns.proofs.free_sets.sets_of.Goals as goal

pub loop-column-preserved : goal.loop-column-preserved
loop-column-preserved c =
    let rules = c.args.rules.now in let live = c.args.live.now in let layers = c.args.layers.now in let columns = c.args.columns.now in
    let before = c.loop-column.invariant in let i = c.loop-column.column-index in let numbers = c.loop-column.numbers.items in
    let long : length c.push.new.self.items ≡ i + 1 = (let p = c.in_ok-push.ensures.items in let q = before.long in grind (arith, common_steps)) in
    elim c.if-is_marked.branch [
      | then-is_marked+in_ok-place_set w ↦
          let place = w.in_ok-place_set.field-0 in
          let e = w.in_ok-place_set.ensures in
          let free = c.requires.frees (get_or columns i 0) (sym c.is_marked.ensures ∙ w.if-is_marked.true) in
          let here = placed rules live layers c.requires.layers c.requires.tokens (get_or columns i 0) place w.place_set.new.sets.items e.at c.requires.bare c.requires.closed c.requires.alone free in
          record {
            long = long;
            free = rw (c.in_ok-push.ensures.items, w.number-is, w.sets-is)
                (one_over rules columns numbers c.loop-column.sets.items w.place_set.new.sets.items
                (Some place) i before.free before.long e.keep here);
          }
      | else-is_marked w ↦
          record {
            long = long;
            free = rw (c.in_ok-push.ensures.items, w.number-is, w.sets-is)
                (one_over rules columns numbers c.loop-column.sets.items c.loop-column.sets.items
                None i before.free before.long (keep_same rules columns c.loop-column.sets.items)
                (λ k d z. absurd cc));
          }
    ]
