use Rattle.std.proofs.Common.{[], arith, ◌++◌, ◌<◌, ◌∷◌}
use Rattle.std.proofs.lemmas.List.{length-append}
use Rattle.pv_productive.specs.PlainForms.{dtd_of}
use Rattle.pv_rules.specs.Derivations.{heaviest}
use Rattle.pv_rules.specs.PlainForms.{plain_site}
use Rattle.pv_rules.specs.Rules.{over}
use Rattle.pv_span.specs.Weights.{tokens_of, weight_of}
use Rattle.pv_complete.proofs.Keys.{entry}
use Rattle.pv_complete.proofs.ListingSites.{listing_has}
use Rattle.pv_complete.proofs.EntryLists.{listed_heavy, listed_light, pushed_ascend, pushed_each}
use Rattle.pv_complete.proofs.listings.entries.list_span.Goals as goal

pub returns-then-value-ge-HEAVIEST-clause-listed : goal.returns-then-value-ge-HEAVIEST-clause-listed
returns-then-value-ge-HEAVIEST-clause-listed c =
    listed_heavy (dtd_of c.args.listing.now.grammar.now) (tokens_of c.args.listing.now.spans.now)
    (weight_of c.args.listing.now.spans.now) c.args.listing.now.site c.args.from c.args.to
    c.args.entries.now.items c.requires.listed
    (let e = c.at-value.ensures in let h = c.if-value-ge-HEAVIEST.true in omega arith)

pub returns-then-len-room-clause-refused : goal.returns-then-len-room-clause-refused
returns-then-len-room-clause-refused c =
    let d = dtd_of c.args.listing.now.grammar.now in
    let n = tokens_of c.args.listing.now.spans.now in
    let t = weight_of c.args.listing.now.spans.now in
    let es = c.args.entries.now.items in
    let few : t (over (plain_site c.args.listing.now.site) c.args.from c.args.to) < heaviest = let e = c.at-value.ensures in let h = c.if-value-ge-HEAVIEST.false in omega arith in
    record {
      entries = es ++ entry c.args.listing.now.site c.args.from c.args.to (t (over (plain_site c.args.listing.now.site) c.args.from c.args.to)) ∷ [];
      each = pushed_each d n t c.args.listing.now.site c.args.from c.args.to es c.requires.listed
          (listing_has c.args.listing.now) c.requires.places.0
          (let l = c.args.listing.now.long in let p = c.requires.places.1 in omega arith) few;
      ascend = pushed_ascend d n t c.args.listing.now.site c.args.from c.args.to es c.requires.listed;
      more = simp length-append (omega arith);
    }

pub returns-clause-listed : goal.returns-clause-listed
returns-clause-listed c =
    let d = dtd_of c.args.listing.now.grammar.now in
    let n = tokens_of c.args.listing.now.spans.now in
    let t = weight_of c.args.listing.now.spans.now in
    let few : t (over (plain_site c.args.listing.now.site) c.args.from c.args.to) < heaviest = let e = c.at-value.ensures in let h = c.if-value-ge-HEAVIEST.false in omega arith in
    rw (c.in_ok-push.ensures.items, c.at-value.ensures)
    (listed_light d n t c.args.listing.now.site c.args.from c.args.to c.args.entries.now.items
    c.requires.listed (listing_has c.args.listing.now) c.requires.places.0
    (let l = c.args.listing.now.long in let p = c.requires.places.1 in omega arith) few)
