-- The plain forms of sites, and what it means that the program's vectors have the parts of a DTD.
use Rattle.std.specs.Prelude.{◌≡◌}
use Rattle.pv_dtd.specs.Plain.{PlainDtd}
use Rattle.pv_rules.specs.Flat.{flat_contents, flat_parts}
use Rattle.pv_rules.specs.Sites.{PlainSite, content_site, name_site, part_site, rest_site}
use Rattle.pv_rules.specs.declared.flat_dtd.FlatDtd.{FlatDtd}
use Rattle.pv_rules.specs.declared.sites.Site.{Site}
use Rattle.pv_rules.specs.declared.sites.Site.TheVariants as site

-- the plain form of a site
abbrev pub plain_site : Site → PlainSite
plain_site (site.Name id) = name_site id.0
plain_site (site.Content id) = content_site id.0
plain_site (site.Part q) = part_site q
plain_site (site.Rest q) = rest_site q

-- the parts and contents are those of the DTD
pub record IsFlat (g : PlainDtd) (flat : FlatDtd) : Type 0 where
  pub parts : flat.parts.items ≡ flat_parts g
  pub contents : flat.contents.items ≡ flat_contents 0 g.models
