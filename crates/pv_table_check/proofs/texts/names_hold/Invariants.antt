use Rattle.std.proofs.Common.{Some, map, slice_get, suc, ℕ, ◌<◌, ◌≡◌}
use Rattle.pv_model.specs.Plain.{named}
use Rattle.pv_model.specs.PlainForms.{plain_token}
use Rattle.pv_rules.specs.Rules.{over}
use Rattle.pv_rules.specs.Sites.{name_site}
use Rattle.pv_tables.specs.Values.{listed_value}
use Rattle.pv_table_check.proofs.texts.names_hold.Given as goal

abbrev pub invariant-loop-place : goal.invariant-loop-place
invariant-loop-place l = (x i : ℕ) → i < l.place → slice_get (map plain_token l.word) i ≡ Some (named x) → listed_value l.entries (over (name_site x) i (suc i)) ≡ 0
