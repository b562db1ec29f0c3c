-- The rows of a denial, and what it means that they are a barrier.
use Rattle.std.specs.Prelude.{List, None, Option, Some, [], length, option_and_then, slice_get, suc}
use Rattle.std.specs.Prelude.{ℕ, ◌+◌, ◌<◌, ◌∷◌, ◌≡◌, ◌≢◌, ◌≤◌, ◌⊎◌, if◌then◌else◌}
use Rattle.pv_model.specs.Plain.{PlainToken}
use Rattle.pv_dtd.specs.Plain.{PlainDtd}
use Rattle.pv_rules.specs.Barriers.{IsBarrierAtRows}
use Rattle.pv_rules.specs.PlainForms.{plain_site}
use Rattle.pv_rules.specs.Sites.{HasSite, PlainSite}
use Rattle.pv_tables.specs.Tables.{kind_rank, site_number}
use Rattle.pv_tables.specs.Values.{are_same_sites}
use Rattle.pv_denial.specs.declared.denials.Row.{Row}

-- the first row of a site
abbrev pub row_of_site : List Row → PlainSite → Option Row
row_of_site [] s = None
row_of_site (r ∷ rows) s =
    if are_same_sites (plain_site r.site) s then Some r else row_of_site rows s

-- what the row of a site has at a place; none where no row is listed
abbrev pub row_value : List Row → PlainSite → ℕ → Option ℕ
row_value rows s i = option_and_then (λ (r : Row). slice_get r.values i) (row_of_site rows s)

-- Each value is its place or one after it in a word of n tokens, and they don't fall.
pub record AreRisingValues (values : List ℕ) (n : ℕ) : Type 0 where
  pub bounded : (i v : ℕ) → slice_get values i ≡ Some v → (i ≤ v) × (v ≤ n)
  pub rising : (i j u v : ℕ) → i ≤ j → slice_get values i ≡ Some u →
      slice_get values j ≡ Some v → u ≤ v

-- A row for a word of n tokens: its site is one of the DTD; it has a value for each place, which is
-- that place or one after it in the word; and its values don't fall.
pub record IsRow (g : PlainDtd) (n : ℕ) (r : Row) : Type 0 where
  pub has : HasSite g (plain_site r.site)
  pub long : length r.values ≡ suc n
  pub rises : AreRisingValues r.values n

-- each row is so
abbrev pub EachRow : (Row → Type 0) → List Row → Type 0
EachRow P rows = (k : ℕ) (r : Row) → slice_get rows k ≡ Some r → P r

-- no two rows have the same site
abbrev pub AreOfOtherSites : List Row → Type 0
AreOfOtherSites rows = (j k : ℕ) (q r : Row) → j < k → slice_get rows j ≡ Some q →
    slice_get rows k ≡ Some r → plain_site q.site ≢ plain_site r.site

-- The rows of a barrier for a word: each is a row for it, no two have one site, and
-- each left side of a rule is at least each right side.
pub record AreBarrierRows (g : PlainDtd) (w : List PlainToken) (rows : List Row) : Type 0 where
  pub each : EachRow (IsRow g (length w)) rows
  pub once : AreOfOtherSites rows
  pub barrier : IsBarrierAtRows g w (row_value rows)

-- One site is before another by kind, in the order of contents, names, parts and members of
-- sequences, and then by number.
abbrev pub IsSiteBefore : PlainSite → PlainSite → Type 0
IsSiteBefore a b = (kind_rank a < kind_rank b) ⊎
    ((kind_rank a ≡ kind_rank b) × (site_number a < site_number b))

-- how many values all rows of a denial may have
abbrev pub most_values : ℕ
most_values = 8388608

-- how many values rows have
abbrev pub values_in : List Row → ℕ
values_in [] = 0
values_in (r ∷ rows) = length r.values + values_in rows

-- Rows stand in the order of their sites, each has a value, and they have no more than there may
-- be.
pub record AreInOrder (rows : List Row) : Type 0 where
  pub ascend : (j k : ℕ) (q r : Row) → j < k → slice_get rows j ≡ Some q →
      slice_get rows k ≡ Some r → IsSiteBefore (plain_site q.site) (plain_site r.site)
  pub some : EachRow (λ r. r.values ≢ []) rows
  pub few : values_in rows ≤ most_values
