use Rattle.std.proofs.Common.{Some, slice_get, ℕ, ◌<◌, ◌≢◌}
use Rattle.pv_tree.specs.declared.nodes.Verdict.TheVariants as verdict
use Rattle.pv_fresh.proofs.firsts.first_impossible.Given as goal

abbrev pub invariant-loop-k : goal.invariant-loop-k
invariant-loop-k l = (i : ℕ) → i < l.k → slice_get l.verdicts i ≢ Some verdict.Impossible
