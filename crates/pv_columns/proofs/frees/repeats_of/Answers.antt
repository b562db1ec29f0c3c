use Rattle.std.proofs.Common.{Contains, List, arith, drop, inl, inr, length, subst, sym, take, ℕ, ◌++◌, ◌∙◌, ◌≡◌, ◌⊎◌}
use Rattle.std.proofs.lemmas.Grind.{common_steps}
use Rattle.pv_columns.specs.Bits.{HasIn}
use Rattle.pv_columns.specs.Frees.{IsRepeatOf}
use Rattle.pv_columns.proofs.RepeatedColumns.{are_repeats}
use Rattle.pv_columns.proofs.frees.repeats_of.Goals as goal

pub loop-rule-preserved : goal.loop-rule-preserved
loop-rule-preserved c =
    let rules = c.args.rules.now in let m = c.args.layer_number in
    let old = c.loop-rule.repeats.items in let new = c.add_repeat.new.repeats in
    let v = c.deref_mut.ensures.value in
    let P : List ℕ → Type 0 = λ x. length new ≡ length x in
    let long : length new ≡ length old = subst P v c.add_repeat.ensures.long in
    let kept : take c.loop-rule.repeats.len (new ++ drop (length new) old) ≡ new = grind (arith, common_steps) in
    let r = c.rule-item.result in
    let con : Contains rules r = (c.loop-rule.rule-index, c.loop-rule-test.true, sym c.rule-item.is) in
    let O : List ℕ → Type 0 = λ x. (d k : ℕ) → HasIn new d k → HasIn x d k ⊎ IsRepeatOf m c.args.layer.now r d k in
    let only : O old = subst O v c.add_repeat.ensures.only in
    let before = c.loop-rule.invariant in
    rw kept record {
      long = long ∙ before.long;
      sound = λ d k h. elim (only d k h) [
        | inl o ↦ before.sound d k o
        | inr o ↦ (r, con, o)
      ];
    }

pub returns : goal.returns
returns c = are_repeats c.args.rules.now c.args.live.now c.args.layer_number c.args.layer.now c.requires.layer c.loop-rule.repeats.items c.loop-rule.invariant.sound
