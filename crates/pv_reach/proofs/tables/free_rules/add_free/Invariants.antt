use Rattle.std.proofs.Common.{Contains, List, None, Some, [], length, take, ℕ, ◌<◌, ◌∷◌}
use Rattle.pv_model.specs.declared.models.Token.{Token}
use Rattle.pv_columns.specs.FreeSets.{IsFreeOver}
use Rattle.pv_columns.specs.Tokens.{IsInRow}
use Rattle.pv_columns.specs.declared.rules.ColumnRule.{ColumnRule}
use Rattle.pv_reach.specs.Columns.{Has}
use Rattle.pv_reach.specs.Cuts.{AddsCut}
use Rattle.pv_reach.specs.Merging.{column_head}
use Rattle.pv_reach.proofs.tables.free_rules.add_free.Given as goal

abbrev pub invariant-loop-token : goal.invariant-loop-token
invariant-loop-token l = record {
  adds : (rules : List ColumnRule) (names : List ℕ) → IsFreeOver rules l.row (column_head names l.left) → l.left < length names → AddsCut rules names l.fn.few.items l.few.items;
  none : Has l.few.items l.left None [];
  each : (t : Token) → Contains (take l.token-index l.tokens) t → IsInRow l.row t → Has l.few.items l.left (Some t) (l.left ∷ []);
}
