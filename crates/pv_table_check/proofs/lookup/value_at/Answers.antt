use Rattle.std.proofs.Common.{◌≡◌, Some, ap, arith, slice_get, sym, ◌∙◌}
use Rattle.std.proofs.lemmas.Option.{slice_get-get_or, slice_get_within}
use Rattle.pv_tables.specs.Values.{goal_of, listed_value}
use Rattle.pv_tables.specs.declared.tables.Entry.{Entry}
use Rattle.pv_table_check.proofs.EntryOrder.{at_contains, none_at, own_value}
use Rattle.pv_table_check.proofs.lookup.value_at.Goals as goal

pub returns-in_default : goal.returns-in_default
returns-in_default c =
    let past = c.in_default.ensures.lookup.3 in
    let probe : Entry = record { site = c.args.site; from = c.args.from; to = c.args.to; value = 0 } in
    sym (none_at c.listed_or_not_law.ensures c.args.entries.now probe c.count_before-place.result c.requires c.count_before-place.ensures.before c.count_before-place.ensures.behind
    (λ e at g. let w = slice_get_within c.args.entries.now c.count_before-place.result e at in omega arith))

pub returns-then-not-is_same_goal : goal.returns-then-not-is_same_goal
returns-then-not-is_same_goal c =
    let h = c.in-Some.ensures.lookup in
    let probe : Entry = record { site = c.args.site; from = c.args.from; to = c.args.to; value = 0 } in
    let at : slice_get c.args.entries.now c.count_before-place.result ≡ Some c.in-Some.entry.now =
    slice_get-get_or c.args.entries.now c.count_before-place.result c.in-Some.entry.now h.3.0
    ∙ ap Some (sym h.1) in
    sym (none_at c.listed_or_not_law.ensures c.args.entries.now probe c.count_before-place.result c.requires c.count_before-place.ensures.before c.count_before-place.ensures.behind
    (λ e also g. let same : c.in-Some.entry.now ≡ e = cc in let f = c.if-not-is_same_goal.true in let t = c.is_same_goal.ensures.1 (ap (λ (x : Entry). goal_of x) same ∙ g) in absurd cc))

pub returns : goal.returns
returns c =
    let h = c.in-Some.ensures.lookup in
    let at : slice_get c.args.entries.now c.count_before-place.result ≡ Some c.in-Some.entry.now =
    slice_get-get_or c.args.entries.now c.count_before-place.result c.in-Some.entry.now h.3.0
    ∙ ap Some (sym h.1) in
    let own = own_value c.args.entries.now c.requires c.listed_or_not_law.ensures c.in-Some.entry.now (at_contains c.args.entries.now c.in-Some.entry.now c.count_before-place.result at) in
    let g = c.is_same_goal.ensures.0 c.if-not-is_same_goal.false in
    sym own ∙ ap (λ x. listed_value c.args.entries.now x) g
