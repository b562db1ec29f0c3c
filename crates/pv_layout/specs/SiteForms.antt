-- The plain form of the columns of sites.
use Rattle.pv_layout.specs.Columns.{PlainSites}
use Rattle.pv_layout.specs.declared.sites.SiteColumns.{SiteColumns}
use Rattle.pv_layout.specs.declared.sites.SiteColumns.TheVariants.{Lent, Own}
use Rattle.pv_layout.specs.declared.sites.Sites.{Sites}

-- the plain form of the columns of all sites
abbrev pub plain_sites : Sites → PlainSites
plain_sites s = record {
  names = s.names.items;
  contents = s.contents.items;
  parts = s.parts.items;
  rests = s.rests.items;
}

-- the plain form of the columns of all sites, owned or lent
abbrev pub plain_columns : SiteColumns → PlainSites
plain_columns (Own s) = plain_sites s
plain_columns (Lent s) = plain_sites s.now
