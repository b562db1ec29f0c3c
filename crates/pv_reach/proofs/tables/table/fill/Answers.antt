use Rattle.std.proofs.Common.{◌≡◌, ◌≤◌, ◌-◌, List, ℕ, length, take, drop, ◌++◌, arith, suc, get_or, subst}
use Rattle.std.proofs.lemmas.Grind.{common_steps}
use Rattle.pv_reach.proofs.ClosedCells.{closed_complete}
use Rattle.pv_reach.proofs.RaisedCells.{rise_complete}
use Rattle.pv_reach.proofs.tables.table.fill.Goals as goal

pub loop-place-preserved : goal.loop-place-preserved
loop-place-preserved c =
    let rules = c.args.front.now ++ c.args.rules.now in
    let kept : take c.loop.table.len (c.raise_by_either.new.table ++ drop (length c.raise_by_either.new.table) c.loop.table.items) ≡ c.raise_by_either.new.table = grind (arith, common_steps) in
    let R : List ℕ → Type 0 = λ old. (k : ℕ) → get_or old k 0 ≤ get_or c.raise_by_either.new.table k 0 in
    let rises : R c.loop.table.items = subst R c.deref_mut.ensures.value c.raise_by_either.ensures.rises in
    let behind = rise_complete rules c.args.word.now c.args.width c.loop.table.items c.raise_by_either.new.table (suc (c.loop-place.place - 1)) rises c.loop.invariant.complete in
    rw kept record {
      table = c.raise_by_either.ensures.table;
      attained = c.raise_by_either.ensures.attained;
      complete = closed_complete rules c.args.word.now c.args.width c.raise_by_either.new.table (c.loop-place.place - 1) c.raise_by_either.ensures.table c.requires.missing c.requires.in_range
          (c.raise_by_either.ensures.closed c.loop-test.false) behind (omega arith);
    }
