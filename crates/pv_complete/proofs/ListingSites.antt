-- The site whose entries are listed.
use Rattle.pv_rules.specs.PlainForms.{plain_site}
use Rattle.pv_rules.specs.Sites.{HasSite}
use Rattle.pv_productive.specs.PlainForms.{dtd_of}
use Rattle.pv_complete.specs.declared.listings.entries.Listing.{Listing}
use Rattle.pv_span.proofs.KnownSites.{known_site}

pub listing_has : (v : Listing) → HasSite (dtd_of v.grammar.now) (plain_site v.site)
listing_has v = known_site (dtd_of v.grammar.now) (plain_site v.site) v.has
