use Rattle.std.proofs.Common.{arith, get_or, refl}
use Rattle.pv_tables.specs.declared.tables.Entry.{Entry}
use Rattle.pv_rules.specs.declared.sites.Site.TheVariants as site
use Rattle.pv_table_check.proofs.ClosedSites.{all_text, item_contained, no_entry, text_within}
use Rattle.pv_table_check.proofs.texts.text_holds.Goals as goal

pub returns-then-not-is_within_text : goal.returns-then-not-is_within_text
returns-then-not-is_within_text c =
    let probe : Entry = record { site = site.Content c.args.name; from = 0; to = 0; value = 0 } in
    let found = c.entries_like-found.result.now in (
      λ t. absurd cc,
      λ w.
          let t = c.is_within_text.ensures.1 (text_within c.listed_or_not_law.ensures c.args.entries.now c.requires _ c.args.name.0 probe refl found c.entries_like-found.ensures.like w
          (get_or found c.loop-entry.entry-index no_entry) (item_contained found c.loop-entry.entry-index no_entry c.loop-entry-test.true)) in
          let f = c.if-not-is_within_text.true in cc,
    )

pub returns : goal.returns
returns c =
    let probe : Entry = record { site = site.Content c.args.name; from = 0; to = 0; value = 0 } in (
      λ t. all_text c.listed_or_not_law.ensures c.args.entries.now c.requires _ c.args.name.0 probe refl c.entries_like-found.result.now c.entries_like-found.ensures.like
          (λ k d lt. c.loop-entry.invariant k d (let e = c.loop-entry-test.false in omega arith)),
      λ w. refl,
    )
