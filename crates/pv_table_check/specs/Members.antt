-- The sites of a kind whose numbers are in a range, and their entries.
use Rattle.std.specs.Prelude.{List, ◌<◌, ◌≡◌, ◌≤◌}
use Rattle.std.specs.List.{Contains}
use Rattle.pv_rules.specs.PlainForms.{plain_site}
use Rattle.pv_rules.specs.Sites.{PlainSite}
use Rattle.pv_tables.specs.Tables.{kind_rank, site_number}
use Rattle.pv_tables.specs.declared.tables.Entry.{Entry}

-- the site is of the kind of these two, and its number isn't before that of the one and is before
-- that of the other
abbrev pub IsMemberSite : PlainSite → PlainSite → PlainSite → Type 0
IsMemberSite low high s = (kind_rank s ≡ kind_rank low) × (site_number low ≤ site_number s) ×
    (site_number s < site_number high)

-- an entry has the span of another one, and no greater value
abbrev pub IsNoMore : Entry → Entry → Type 0
IsNoMore e l = (l.from ≡ e.from) × (l.to ≡ e.to) × (l.value ≤ e.value)

-- these are among some entries, and each of those has one of these with its span and no greater
-- value
pub record AreLeast (all found : List Entry) : Type 0 where
  pub are : (e : Entry) → Contains found e → Contains all e
  pub least : (e : Entry) → Contains all e → (l : Entry) × Contains found l × IsNoMore e l

-- these are entries of members, and each entry of a member has one of these with its span and no
-- greater value
pub record AreMembers (es : List Entry) (low high : PlainSite) (found : List Entry) : Type 0 where
  pub are : (e : Entry) → Contains found e →
      Contains es e × IsMemberSite low high (plain_site e.site)
  pub least : (e : Entry) → Contains es e → IsMemberSite low high (plain_site e.site) →
      (l : Entry) × Contains found l × IsNoMore e l
