use Rattle.std.proofs.Common.{arith, suc, ◌+◌, ◌≡◌}
use Rattle.pv_productive.specs.PlainForms.{dtd_of}
use Rattle.pv_rules.specs.PlainForms.{plain_site}
use Rattle.pv_span.specs.Weights.{tokens_of, weight_of}
use Rattle.pv_tables.specs.Tables.{kind_rank, site_number}
use Rattle.pv_complete.proofs.EntryLists.{listed_place}
use Rattle.pv_complete.proofs.listings.entries.list_from.Goals as goal

pub returns-clause-listed : goal.returns-clause-listed
returns-clause-listed c =
    let e : c.loop-to.to ≡ suc (tokens_of c.args.listing.now.spans.now) = let l = c.args.listing.now.long in omega arith in
    listed_place (dtd_of c.args.listing.now.grammar.now) (tokens_of c.args.listing.now.spans.now)
    (weight_of c.args.listing.now.spans.now) (kind_rank (plain_site c.args.listing.now.site))
    (site_number (plain_site c.args.listing.now.site)) c.args.from c.loop-to.entries.items
    (rw e at c.loop-to.invariant.listed)

pub loop-to-init : goal.loop-to-init
loop-to-init c = record { few = c.requires.few; listed = c.requires.listed }

pub loop-to-preserved : goal.loop-to-preserved
loop-to-preserved c =
    let e : suc c.loop-to.to ≡ c.loop-to.to + 1 = omega arith in
    record { few = c.in_ok-list_span.ensures.few; listed = rw e at c.in_ok-list_span.ensures.listed }

pub list_span-requires : goal.list_span-requires
list_span-requires c = record { places = (omega arith, omega arith); few = c.loop-to.invariant.few; listed = c.loop-to.invariant.listed }
