use Rattle.std.proofs.Common.{Contains, List, arith, drop, get_or, inl, inr, length, subst, sym, take, ℕ, ◌++◌, ◌∙◌, ◌≡◌, ◌⊎◌}
use Rattle.std.proofs.lemmas.Grind.{common_steps}
use Rattle.pv_columns.specs.Bits.{HasIn}
use Rattle.pv_columns.specs.EdgeFlows.{Grow}
use Rattle.pv_columns.specs.Rows.{HasSeed, IsSeedOf}
use Rattle.pv_columns.proofs.ClosedMarks.{holds_more}
use Rattle.pv_columns.proofs.EdgesAndSeeds.{seed_grow}
use Rattle.pv_columns.proofs.rows.seeds_of.Goals as goal

pub loop-rule-preserved : goal.loop-rule-preserved
loop-rule-preserved c =
    let rules = c.args.rules.now in let live = c.args.live.now in let m = c.args.layer_number in
    let old = c.loop-rule.layer.items in let new = c.add_seed.new.layer in
    let v = c.deref_mut.ensures.value in
    let P : List ℕ → Type 0 = λ x. length new ≡ length x in
    let long : length new ≡ length old = subst P v c.add_seed.ensures.long in
    let kept : take c.loop-rule.layer.len (new ++ drop (length new) old) ≡ new = grind (arith, common_steps) in
    let G : List ℕ → Type 0 = λ x. Grow x new in
    let grow : Grow old new = subst G v c.add_seed.ensures.grow in
    let r = c.rule-item.result in
    let con : Contains rules r = (c.loop-rule.rule-index, c.loop-rule-test.true, sym c.rule-item.is) in
    let O : List ℕ → Type 0 = λ x. (d k : ℕ) → HasIn new d k → HasIn x d k ⊎ IsSeedOf live m r d k in
    let only : O old = subst O v c.add_seed.ensures.only in
    let before = c.loop-rule.invariant in
    rw kept record {
      long = long ∙ before.long;
      sound = λ d k h. elim (only d k h) [
        | inl o ↦ before.sound d k o
        | inr o ↦ (r, con, o)
      ];
      complete = holds_more (HasSeed live m new) rules c.loop-rule.rule-index r c.loop-rule-test.true (subst (HasSeed live m new) c.rule-item.is c.add_seed.ensures.has)
          (λ k d l. seed_grow live m old new grow (get_or rules k d) (before.complete k d l));
    }
