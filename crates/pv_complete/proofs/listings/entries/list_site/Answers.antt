use Rattle.std.proofs.Common.{arith, suc, ◌+◌, ◌≡◌}
use Rattle.pv_productive.specs.PlainForms.{dtd_of}
use Rattle.pv_rules.specs.PlainForms.{plain_site}
use Rattle.pv_span.specs.Weights.{tokens_of, weight_of}
use Rattle.pv_tables.specs.Tables.{kind_rank, site_number}
use Rattle.pv_complete.proofs.EntryLists.{listed_site}
use Rattle.pv_complete.proofs.listings.entries.list_site.Goals as goal

pub returns-clause-listed : goal.returns-clause-listed
returns-clause-listed c =
    let e : c.loop-from.from ≡ suc (tokens_of c.args.listing.now.spans.now) = let l = c.args.listing.now.long in omega arith in
    listed_site (dtd_of c.args.listing.now.grammar.now) (tokens_of c.args.listing.now.spans.now)
    (weight_of c.args.listing.now.spans.now) (kind_rank (plain_site c.args.listing.now.site))
    (site_number (plain_site c.args.listing.now.site)) c.loop-from.entries.items
    (rw e at c.loop-from.invariant.listed)

pub loop-from-init : goal.loop-from-init
loop-from-init c = record { few = c.requires.few; listed = c.requires.listed }

pub loop-from-preserved : goal.loop-from-preserved
loop-from-preserved c =
    let e : suc c.loop-from.from ≡ c.loop-from.from + 1 = omega arith in
    record { few = c.in_ok-list_from.ensures.few; listed = rw e at c.in_ok-list_from.ensures.listed }

pub list_from-requires : goal.list_from-requires
list_from-requires c = record { place = omega arith; few = c.loop-from.invariant.few; listed = c.loop-from.invariant.listed }
