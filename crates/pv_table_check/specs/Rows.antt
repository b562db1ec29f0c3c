-- The values of a site, laid out by the places where its spans begin and end.
use Rattle.std.specs.Prelude.{List, Some, get_or, length, slice_get, suc, ℕ, ◌+◌, ◌<◌, ◌≡◌, ◌≤◌}
use Rattle.std.specs.List.{Contains}
use Rattle.pv_rules.specs.Rules.{over}
use Rattle.pv_rules.specs.Sites.{PlainSite}
use Rattle.pv_tables.specs.Values.{listed_value}
use Rattle.pv_tables.specs.declared.tables.Entry.{Entry}
use Rattle.pv_table_check.specs.Lookup.{AreAscendingEntries}
use Rattle.pv_table_check.specs.declared.rows.Row.{Row}

-- The entries begin no later than they end, and end at this place at most; they ascend, and are
-- light.
pub record AreOverPlaces (es : List Entry) (most : ℕ) : Type 0 where
  pub order : AreAscendingEntries es
  pub span : (e : Entry) → Contains es e → (e.from ≤ e.to) × (e.to ≤ most)

-- These are the values that entries give a site over the spans that begin at a place, for each
-- place up to the last one where they may end.
pub record AreValuesFrom (es : List Entry) (s : PlainSite) (most from : ℕ) (values : List ℕ)
    : Type 0 where
  pub long : from + length values ≡ suc most
  pub each : (k : ℕ) → k < length values →
      get_or values k 0 ≡ listed_value es (over s from (from + k))

-- there is such a row for each place
pub record AreValueRows (es : List Entry) (s : PlainSite) (most : ℕ) (rows : List Row)
    : Type 0 where
  pub long : length rows ≡ suc most
  pub each : (i : ℕ) (r : Row) → slice_get rows i ≡ Some r →
      AreValuesFrom es s most i r.values.items
