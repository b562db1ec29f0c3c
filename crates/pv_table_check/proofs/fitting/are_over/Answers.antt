use Rattle.std.proofs.Common.{arith, get_or, map}
use Rattle.std.proofs.lemmas.List.Elements.{All-contains, All-from_get_or}
use Rattle.pv_model.specs.PlainForms.{plain_token}
use Rattle.pv_dtd.specs.PlainForms.{plain_dtd}
use Rattle.pv_table_check.specs.ClosedEntries.{IsEntryOver}
use Rattle.pv_table_check.proofs.ClosedSites.{item_contained, no_entry}
use Rattle.pv_table_check.proofs.fitting.are_over.Goals as goal

pub returns-then-not-is_over : goal.returns-then-not-is_over
returns-then-not-is_over c = (
  λ t. absurd cc,
  λ h.
      let es = c.args.entries.now in
      let o = All-contains (IsEntryOver (plain_dtd c.args.dtd.now) (map plain_token c.args.word.now)) es (get_or es c.loop-entry.entry-index no_entry) h.each
      (item_contained es c.loop-entry.entry-index no_entry c.loop-entry-test.true) in
      let t = c.is_over.ensures.1 o in
      let f = c.if-not-is_over.true in cc,
)

pub returns : goal.returns
returns c = (
  λ t. record {
    each = All-from_get_or (IsEntryOver (plain_dtd c.args.dtd.now) (map plain_token c.args.word.now)) c.args.entries.now no_entry
        (λ k lt. c.loop-entry.invariant k no_entry (let e = c.loop-entry-test.false in omega arith));
    ascend = c.ascend.ensures.0 t;
  },
  λ h. c.ascend.ensures.1 h.ascend,
)
