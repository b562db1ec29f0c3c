use Rattle.std.proofs.Common.{length, ◌≤◌}
use Rattle.pv_productive.specs.PlainForms.{dtd_of}
use Rattle.pv_rules.specs.PlainForms.{plain_site}
use Rattle.pv_span.specs.Weights.{tokens_of, weight_of}
use Rattle.pv_complete.specs.Listings.{IsListedTo, key}
use Rattle.pv_tables.specs.Tables.{kind_rank, site_number}
use Rattle.pv_complete.proofs.listings.entries.list_from.Given as goal

abbrev pub invariant-loop-to : goal.invariant-loop-to
invariant-loop-to l = record {
  few : length l.entries.items ≤ l.room;
  listed : IsListedTo (dtd_of l.listing.grammar.now) (tokens_of l.listing.spans.now)
      (weight_of l.listing.spans.now) (key (kind_rank (plain_site l.listing.site))
      (site_number (plain_site l.listing.site)) l.from l.to) l.entries.items;
}
