-- The site of the content that a list is to be.
use Rattle.pv_rules.specs.Sites.{PlainSite, content_site, name_site}
use Rattle.pv_missing.specs.declared.owners.Of.{Of}
use Rattle.pv_missing.specs.declared.owners.Of.TheVariants as of

-- the site of what the owner's kids are to be
abbrev pub plain_of : Of → PlainSite
plain_of (of.Root id) = name_site id.0
plain_of (of.Elem id) = content_site id.0
