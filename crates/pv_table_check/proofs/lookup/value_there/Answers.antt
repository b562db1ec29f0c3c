use Rattle.std.proofs.Common.{Some, ap, slice_get, sym, ◌∙◌, ◌≡◌}
use Rattle.std.proofs.lemmas.Option.{slice_get-get_or}
use Rattle.pv_rules.specs.Rules.{Goal}
use Rattle.pv_tables.specs.Values.{listed_value}
use Rattle.pv_table_check.proofs.EntryOrder.{at_contains, own_value}
use Rattle.pv_table_check.proofs.lookup.value_there.Goals as goal

pub returns : goal.returns
returns c =
    let h = c.in-Some.ensures.lookup in
    let at : slice_get c.args.entries.now c.args.place ≡ Some c.in-Some.entry.now = slice_get-get_or c.args.entries.now c.args.place c.in-Some.entry.now h.3.0 ∙ ap Some (sym h.1) in
    let own = own_value c.args.entries.now c.requires c.listed_or_not_law.ensures c.in-Some.entry.now (at_contains c.args.entries.now c.in-Some.entry.now c.args.place at) in
    let g = c.is_same_goal.ensures.0 c.if-not-is_same_goal.false in
    sym own ∙ ap (λ (x : Goal). listed_value c.args.entries.now x) g
