use Rattle.std.proofs.Common.{List, arith, drop, length, subst, sym, take, ℕ, ◌++◌, ◌∙◌, ◌≡◌, ap}
use Rattle.std.proofs.lemmas.Grind.{common_steps}
use Rattle.pv_columns.specs.Bits.{HasIn}
use Rattle.pv_columns.specs.EdgeFlows.{Flows, EdgesInRange}
use Rattle.pv_columns.proofs.EdgesAndSeeds.{in_range, is_layer}
use Rattle.pv_columns.proofs.rows.layer_of.Goals as goal

pub close-requires : goal.close-requires
close-requires c =
    let P : ℕ → Type 0 = λ x. EdgesInRange x c.args.edges.now in
    let wide : c.args.width ≡ length c.deref_mut.result.now = sym (ap length c.deref_mut.ensures.value ∙ c.in_ok-layer.ensures.long) in
    subst P wide (in_range c.args.width c.args.rules.now c.args.live.now c.args.edges.now c.requires.in_range c.requires.edges)

pub returns-clause-exact : goal.returns-clause-exact
returns-clause-exact c =
    let old = c.in_ok-layer.layer.items in let new = c.close.new.layer in
    let v = c.deref_mut.ensures.value in
    let P : List ℕ → Type 0 = λ x. length new ≡ length x in
    let long : length new ≡ length old = subst P v c.close.ensures.long in
    let kept : take c.in_ok-layer.layer.len (new ++ drop (length new) old) ≡ new = grind (arith, common_steps) in
    let O : List ℕ → Type 0 = λ x. (d k : ℕ) → (HasIn new d k → Flows c.args.edges.now x d k) × (Flows c.args.edges.now x d k → HasIn new d k) in
    let exact : O old = subst O v c.close.ensures.exact in
    rw kept (is_layer c.args.rules.now c.args.live.now c.args.edges.now old c.args.layer_number c.requires.edges c.in_ok-layer.ensures.seeds new exact)
