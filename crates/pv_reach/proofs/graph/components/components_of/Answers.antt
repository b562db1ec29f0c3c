use Rattle.std.proofs.Common.{Err, List, Ok, Result, length, subst, sym, ℕ, ◌≡◌}
use Rattle.std.specs.Prelude.{IfOk}
use Rattle.pv_columns.specs.declared.layers.Edge.{Edge}
use Rattle.pv_columns.specs.declared.rules.ColumnRule.{ColumnRule}
use Rattle.pv_reach.specs.LeadingColumns.{AreAlike, AreRightEdges}
use Rattle.pv_reach.specs.declared.graph.components.Components.{Components}
use Rattle.pv_reach.proofs.graph.components.components_of.Goals as goal

both : {E : Type 0} (rules : List ColumnRule) (edges : List Edge) (width : ℕ) (r : Result Components E) → AreRightEdges rules edges → IfOk r (λ c. length c.heads.items ≡ width) →
    IfOk r (λ c. (rules : List ColumnRule) → AreRightEdges rules edges → AreAlike rules c.heads.items) → IfOk r (λ c. (length c.heads.items ≡ width) × AreAlike rules c.heads.items)
both rules edges width (Ok components) are long alike = (long, alike rules are)
both rules edges width (Err error) are long alike = tt

pub returns : goal.returns
returns c =
    let rules = c.args.rules.now in
    both rules _ c.args.width c.components_by.result (subst (AreRightEdges rules) (sym c.deref-4.ensures.value) c.in_ok-edges.ensures) c.components_by.ensures.long c.components_by.ensures.alike
