use Rattle.std.proofs.Common.{List, drop, ℕ, ◌+◌, ◌≤◌}
use Rattle.pv_tree.specs.Lists.{lists_from}
use Rattle.pv_tree.specs.PlainForms.{forest}
use Rattle.pv_parallel.specs.Sizes.{Tallies}
use Rattle.pv_parallel.specs.declared.sizes.Tally.{Tally}
use Rattle.pv_parallel.proofs.sizes.+sizes.Given as goal

-- what counts the rest after those so far counts all
abbrev pub invariant-count_kids-loop-kid : goal.invariant-count_kids-loop-kid
invariant-count_kids-loop-kid l = record {
  counted : (path : List ℕ) (last : Tally) → Tallies (lists_from path l.kid-index (forest (drop l.kid-index l.kids))) l.tally last → Tallies (lists_from path 0 (forest l.kids)) l.fn.tally last;
  bounded : l.tally.lists + l.tally.left ≤ l.fn.tally.lists + l.fn.tally.left;
}
