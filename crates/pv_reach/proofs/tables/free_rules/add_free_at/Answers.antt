use Rattle.std.proofs.Common.{arith, subst, ℕ}
use Rattle.pv_columns.specs.FreeSets.{IsFreeOver}
use Rattle.pv_reach.specs.Merging.{column_head}
use Rattle.pv_reach.proofs.tables.free_rules.add_free_at.Goals as goal

pub returns-clause-adds : goal.returns-clause-adds
returns-clause-adds c =
    let rules = c.args.plan.now.rules.items in let names = c.args.names.now in let column = column_head names c.args.left in let sets = c.requires.sets in
    let P : ℕ → Type 0 = λ v. IsFreeOver rules c.in-Some.row.now v in
    c.in_ok-add_free.ensures.adds rules names (subst P (sets.own column c.if-column-plan.false) (c.in-Some.ensures rules sets.columns sets.sets)) (let z = c.if-left-names.false in omega arith)

pub returns-clause-has : goal.returns-clause-has
returns-clause-has c =
    let rules = c.args.plan.now.rules.items in let names = c.args.names.now in let column = column_head names c.args.left in let sets = c.requires.sets in
    let P : ℕ → Type 0 = λ v. IsFreeOver rules c.in-Some.row.now v in
    c.in_ok-add_free.ensures.has rules names (subst P (sets.own column c.if-column-plan.false) (c.in-Some.ensures rules sets.columns sets.sets))
