use Rattle.std.proofs.Common.{Some, get_or, map, slice_get, suc, ℕ, ◌<◌, ◌≡◌, ◌≤◌}
use Rattle.pv_model.specs.Plain.{text}
use Rattle.pv_model.specs.PlainForms.{plain_token}
use Rattle.pv_rules.specs.Rules.{over}
use Rattle.pv_rules.specs.Sites.{content_site}
use Rattle.pv_tables.specs.Values.{listed_value}
use Rattle.pv_tables.specs.declared.tables.Entry.{Entry}
use Rattle.pv_table_check.proofs.texts.text_holds.Given as goal

abbrev pub invariant-loop-entry : goal.invariant-loop-entry
invariant-loop-entry l = (k : ℕ) (d : Entry) → k < l.entry-index → (i : ℕ) → suc i ≡ (get_or l.found k d).from → slice_get (map plain_token l.word) i ≡ Some text →
    listed_value l.entries (over (content_site l.name.0) i (get_or l.found k d).to) ≤ (get_or l.found k d).value
