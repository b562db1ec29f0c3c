use Rattle.std.proofs.Common.{ap, length, subst, sym, ℕ, ◌∙◌}
use Rattle.pv_columns.specs.Sets.{AreTokensBelow}
use Rattle.pv_columns.proofs.free_sets.FreeSets.of.Goals as goal

pub free_columns-requires-clause-tokens : goal.free_columns-requires-clause-tokens
free_columns-requires-clause-tokens c =
    let P : ℕ → Type 0 = λ n. AreTokensBelow n c.args.rules.now in
    subst P (sym (ap length c.deref-2.ensures.value ∙ c.in_ok-layers.ensures.count)) c.layer_count-count.ensures.below

pub sets_of-requires-clause-tokens : goal.sets_of-requires-clause-tokens
sets_of-requires-clause-tokens c =
    let P : ℕ → Type 0 = λ n. AreTokensBelow n c.args.rules.now in
    subst P (sym (ap length c.deref-3.ensures.value ∙ c.in_ok-layers.ensures.count)) c.layer_count-count.ensures.below
