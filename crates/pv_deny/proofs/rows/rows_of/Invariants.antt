use Rattle.std.proofs.Common.{Some, length, slice_get, ℕ, ◌≡◌}
use Rattle.pv_rules.specs.declared.sites.Site.{Site}
use Rattle.pv_denial.specs.declared.denials.Row.{Row}
use Rattle.pv_deny.specs.ToldRows.{IsToldRow}
use Rattle.pv_deny.proofs.rows.rows_of.Given as goal

abbrev pub invariant-loop-site : goal.invariant-loop-site
invariant-loop-site l = record {
  as_many : length l.rows.items ≡ l.site-index;
  each : (k : ℕ) (s : Site) (row : Row) → slice_get l.sites k ≡ Some s → slice_get l.rows.items k ≡ Some row → IsToldRow l.reaches l.tokens s row;
}
