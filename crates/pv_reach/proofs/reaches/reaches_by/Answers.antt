use Rattle.std.proofs.Common.{List, ap, length, subst, sym, ℕ, ◌<◌, ◌∙◌}
use Rattle.pv_columns.specs.ColumnRules.{TokensMayBeMissing}
use Rattle.pv_columns.specs.declared.rules.ColumnRule.{ColumnRule}
use Rattle.pv_dtd.specs.Plain.{PlainDtd}
use Rattle.pv_productive.specs.PlainForms.{dtd_of}
use Rattle.pv_reach.specs.Columns.{width_of}
use Rattle.pv_reach.specs.Merging.{Replaces, column_head}
use Rattle.pv_reach.specs.Tables.{IsFurthest}
use Rattle.pv_reach.proofs.EmptyReaches.{tokens_may_be_missing}
use Rattle.pv_reach.proofs.FormedDtds.{formed_dtd}
use Rattle.pv_reach.proofs.SiteReaches.{all_headed, reaches_of_plan}
use Rattle.pv_reach.proofs.reaches.reaches_by.Goals as goal

pub fill-requires-clause-missing : goal.fill-requires-clause-missing
fill-requires-clause-missing c =
    let is = c.requires.plan in
    let P : List ColumnRule → Type 0 = λ v. TokensMayBeMissing v c.args.word.now in
    subst P (sym c.deref.ensures.value)
    (is.replaces.missing c.args.word.now (tokens_may_be_missing (dtd_of c.args.grammar.now) is.rules c.args.word.now is.are_rules (formed_dtd c.args.grammar.now) c.requires.productive))

pub invariant_of-ends-clause-headed : goal.invariant_of-ends-clause-headed
invariant_of-ends-clause-headed c =
    let plan = c.args.plan.now in
    let H : List ℕ → Type 0 = λ v. (k : ℕ) → column_head v k < plan.width in
    subst H (sym (c.in_ok-heads.ensures.items ∙ c.deref-2.ensures.value))
    (all_headed (dtd_of c.args.grammar.now) plan.heads.items plan.width c.requires.plan.long c.requires.plan.replaces.columns)

pub returns : goal.returns
returns c =
    let is = c.requires.plan in let plan = c.args.plan.now in let word = c.args.word.now in let formed = formed_dtd c.args.grammar.now in
    let d = dtd_of c.args.grammar.now in
    let P : List ColumnRule → Type 0 = λ v. IsFurthest v word plan.width c.in_ok-table.table.items in
    let R : List ℕ → Type 0 = λ v. Replaces is.rules plan.rules.items (width_of d) plan.width v in
    reaches_of_plan d is.rules plan.rules.items _ word is.are_rules formed c.in_ok-from_slice.ensures.items
    (subst R (sym (c.in_ok-heads.ensures.items ∙ c.deref-2.ensures.value)) is.replaces)
    (is.replaces.missing word (tokens_may_be_missing d is.rules word is.are_rules formed c.requires.productive))
    (subst P c.deref.ensures.value c.in_ok-table.ensures) (c.names.ensures ∙ ap (λ (g : PlainDtd). length g.names) c.dtd.ensures) c.in_ok-rests.ensures
