use Rattle.pv_bounds.specs.Windows.{AllFalling, IsWindow}
use Rattle.pv_bounds.proofs.cuts.tell_from.Given as goal

abbrev pub invariant-loop-next : goal.invariant-loop-next
invariant-loop-next l = record {
  falling : AllFalling l.levels.items;
  window : IsWindow l.claim.fronts.now l.column l.next l.claim.tokens l.levels.items;
}
