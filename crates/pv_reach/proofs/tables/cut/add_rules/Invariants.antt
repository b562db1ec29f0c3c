use Rattle.std.proofs.Common.{get_or, length, ℕ, ◌<◌, ◌≡◌, ◌≤◌}
use Rattle.pv_columns.specs.declared.rules.ColumnRule.{ColumnRule}
use Rattle.pv_reach.specs.Cuts.{AddsCut, HasNumbered}
use Rattle.pv_reach.specs.Merging.{column_head}
use Rattle.pv_reach.proofs.tables.cut.add_rules.Given as goal

abbrev pub invariant-loop-number : goal.invariant-loop-number
invariant-loop-number l = record {
  adds : AddsCut l.rules l.found.names.items l.fn.few.items l.few.items;
  has : (k : ℕ) (r : ColumnRule) → l.first ≤ k → k < l.number → k < length l.rules →
      r ≡ get_or l.rules k r → r.left ≡ column_head l.found.names.items l.left →
      HasNumbered l.found.names.items l.few.items l.left r;
}
