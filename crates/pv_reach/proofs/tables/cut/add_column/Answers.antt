use Rattle.std.proofs.Common.{List, inl, inr, subst, sym, ◌∙◌, ◌≡◌}
use Rattle.std.proofs.lemmas.List.{get_or_default}
use Rattle.pv_columns.specs.declared.rules.ColumnRule.{ColumnRule}
use Rattle.pv_reach.specs.Cuts.{AddsCut}
use Rattle.pv_reach.specs.Merging.{column_head}
use Rattle.pv_reach.proofs.RangesOfRules.{adds_none, by_range, on_ok_as, push_contains, push_keeps}
use Rattle.pv_reach.proofs.tables.cut.add_column.Goals as goal

pub returns-then-is_some-clause-adds : goal.returns-then-is_some-clause-adds
returns-then-is_some-clause-adds c = adds_none c.args.plan.now.rules.items c.args.found.now.names.items c.args.few.now.items

pub returns-then-is_some-clause-frees : goal.returns-then-is_some-clause-frees
returns-then-is_some-clause-frees c = λ l con. push_keeps c.args.frees.now.items c.push.new.self.items c.args.left c.in_ok-push.ensures.items l con

pub returns-then-is_some-clause-has : goal.returns-then-is_some-clause-has
returns-then-is_some-clause-has c = inl (push_contains c.args.frees.now.items c.push.new.self.items c.args.left c.in_ok-push.ensures.items)

pub returns-clause-adds : goal.returns-clause-adds
returns-clause-adds c =
    let names = c.args.found.now.names.items in let new = c.add_rules.new.few.items in
    let P : List ColumnRule → Type 0 = λ v. AddsCut v names c.args.few.now.items new in
    on_ok_as c.add_rules.result _ _ (λ a. subst P c.deref.ensures.value a) c.add_rules.ensures.adds

pub returns-clause-has : goal.returns-clause-has
returns-clause-has c =
    let names = c.args.found.now.names.items in let l = c.args.left in let column = c.index-column.result.now in let new = c.add_rules.new.few.items in
    let is : column_head names l ≡ column = get_or_default names l 0 column c.requires.left ∙ sym c.index-column.ensures in
    on_ok_as c.add_rules.result _ _
    (λ has. inr (by_range c.args.plan.now.rules.items c.deref.result.now names new l column
    c.first_of-first.result c.end_of-end.result c.args.plan.now.ranges c.requires.ranges
    c.deref.ensures.value is
    c.first_of-first.ensures c.end_of-end.ensures has)) c.add_rules.ensures.has
