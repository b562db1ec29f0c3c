use Rattle.std.proofs.Common.{arith, get_or, refl, ◌-◌}
use Rattle.std.proofs.lemmas.Option.{slice_get-get_or}
use Rattle.pv_tables.specs.Tables.{Precedes, key_of}
use Rattle.pv_table_check.proofs.EntryOrder.{before_through}
use Rattle.pv_table_check.proofs.AscendingLists.{all_ascend, ascend_at, one_more, up_to_one}
use Rattle.pv_table_check.proofs.ClosedSites.{no_entry}
use Rattle.pv_table_check.proofs.fitting.ascend.Goals as goal

pub loop-place-init : goal.loop-place-init
loop-place-init c = up_to_one Precedes c.args.entries.now _ (omega arith)

pub returns-then-not-ascends_at : goal.returns-then-not-ascends_at
returns-then-not-ascends_at c = (
  λ t. absurd cc,
  λ h.
      let es = c.args.entries.now in
      let k = c.loop-place.place in
      let lt = c.loop-place-test.true in
      let some = c.loop-place.auto.place in
      let at = slice_get-get_or es (k - 1) no_entry (omega arith) in
      let also = slice_get-get_or es k no_entry (omega arith) in
      let t = (c.ascends_at.ensures (get_or es (k - 1) no_entry) (get_or es k no_entry) at also).1
      (ascend_at Precedes es h k (get_or es (k - 1) no_entry) (get_or es k no_entry)
      (omega arith) at also) in
      let f = c.if-not-ascends_at.true in cc,
)

pub loop-place-preserved : goal.loop-place-preserved
loop-place-preserved c = let some = c.loop-place.auto.place in one_more Precedes c.args.entries.now
    c.loop-place.place (omega arith) c.loop-place.invariant
    (λ d e f g. (c.ascends_at.ensures d e f g).0 c.if-not-ascends_at.false)

pub returns : goal.returns
returns c = (
  λ t. all_ascend Precedes c.args.entries.now (λ a b d. before_through (key_of a)
      (key_of b) (key_of d)) c.loop-place.place (let z = c.loop-place-test.false in omega arith)
      c.loop-place.invariant,
  λ h. refl,
)
