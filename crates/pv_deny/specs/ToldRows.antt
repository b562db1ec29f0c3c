-- The sites that furthest places tell something of, their rows, and what is found of a word.
use Rattle.std.specs.Prelude.{IsSome, List, Some, length, slice_get, suc, ℕ, ◌*◌, ◌<◌, ◌≡◌}
use Rattle.std.specs.Prelude.{◌≤◌, ◌⊎◌, ◌≢◌, []}
use Rattle.pv_model.specs.Plain.{PlainToken}
use Rattle.pv_dtd.specs.Plain.{PlainDtd}
use Rattle.pv_rules.specs.PlainForms.{plain_site}
use Rattle.pv_rules.specs.Sites.{HasSite, PlainSite, content_site, name_site, part_site, rest_site}
use Rattle.pv_rules.specs.declared.sites.Site.{Site}
use Rattle.pv_missing.specs.LiveWords.{IsLiveWord}
use Rattle.pv_tables.specs.Tables.{kind_rank, site_number}
use Rattle.pv_reach.specs.FurthestEnds.{end_told}
use Rattle.pv_reach.specs.declared.reaches.Reaches.{Reaches}
use Rattle.pv_denial.specs.Rows.{IsSiteBefore, most_values, values_in}
use Rattle.pv_denial.specs.declared.denials.Cause.{Cause}
use Rattle.pv_denial.specs.declared.denials.Cause.TheVariants as cause
use Rattle.pv_denial.specs.declared.denials.Row.{Row}
use Rattle.pv_deny.specs.DocumentDenials.{AreDerivingSites, AreFurthestRows}
use Rattle.pv_deny.specs.declared.sites.Kind.{Kind}
use Rattle.pv_deny.specs.declared.sites.Kind.TheVariants as kind

-- the site of a kind and a number
abbrev pub site_by : Kind → ℕ → PlainSite
site_by kind.Contents n = content_site n
site_by kind.Names n = name_site n
site_by kind.Parts n = part_site n
site_by kind.Rests n = rest_site n

-- the place of a kind in the order of kinds
abbrev pub rank_of : Kind → ℕ
rank_of kind.Contents = 0
rank_of kind.Names = 1
rank_of kind.Parts = 2
rank_of kind.Rests = 3

-- the DTD has the site, and furthest places tell that it derives something from the first place
abbrev pub IsTold : PlainDtd → Reaches → PlainSite → Type 0
IsTold g r s = HasSite g s × IsSome (end_told r s 0)

-- the site stands before those of a kind from a number on
abbrev pub IsBelow : ℕ → ℕ → PlainSite → Type 0
IsBelow rank number s = (kind_rank s < rank) ⊎ ((kind_rank s ≡ rank) × (site_number s < number))

-- the sites that are told and stand before those of a kind from a number on, in their order
pub record AreToldSites (g : PlainDtd) (r : Reaches) (rank number : ℕ) (sites : List Site) : Type 0
  where
    pub each : (k : ℕ) (s : Site) → slice_get sites k ≡ Some s →
        IsTold g r (plain_site s) × IsBelow rank number (plain_site s)
    pub ascend : (j k : ℕ) (a b : Site) → j < k → slice_get sites j ≡ Some a →
        slice_get sites k ≡ Some b → IsSiteBefore (plain_site a) (plain_site b)
    pub all : (s : PlainSite) → IsTold g r s → IsBelow rank number s →
        (k : ℕ) × (t : Site) × (slice_get sites k ≡ Some t) × (plain_site t ≡ s)

-- the row of a site, as furthest places over a word of n tokens tell it
pub record IsToldRow (r : Reaches) (n : ℕ) (s : Site) (row : Row) : Type 0 where
  pub is_site : row.site ≡ s
  pub long : length row.values ≡ suc n
  pub told : (i v : ℕ) → slice_get row.values i ≡ Some v → end_told r (plain_site s) i ≡ Some v

-- the rows of sites, in their order
pub record AreToldRows (r : Reaches) (n : ℕ) (sites : List Site) (rows : List Row) : Type 0 where
  pub as_many : length rows ≡ length sites
  pub each : (k : ℕ) (s : Site) (row : Row) → slice_get sites k ≡ Some s →
      slice_get rows k ≡ Some row → IsToldRow r n s row

-- the rows of furthest places over the live word of a word, with no more values than there may be
pub record HasRows (g : PlainDtd) (w : List PlainToken) (rows : List Row) : Type 0 where
  pub live : List PlainToken
  pub is_live : IsLiveWord g w live
  pub furthest : AreFurthestRows g live rows
  pub few : values_in rows ≤ most_values

-- they would have more values than there may be
pub record HasManyValues (g : PlainDtd) (w : List PlainToken) : Type 0 where
  pub live : List PlainToken
  pub is_live : IsLiveWord g w live
  pub sites : List PlainSite
  pub are_sites : AreDerivingSites g live sites
  pub many : most_values < length sites * suc (length live)

-- the rows that a denial has by its cause
pub record HasRowsBy (g : PlainDtd) (w : List PlainToken) (c : Cause) (rows : List Row) : Type 0
  where
    pub by_word : c ≡ cause.Word → HasRows g w rows
    pub none : c ≢ cause.Word → rows ≡ []
