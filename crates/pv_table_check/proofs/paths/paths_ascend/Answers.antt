use Rattle.std.proofs.Common.{[], arith, get_or, refl, ◌-◌}
use Rattle.std.proofs.lemmas.Option.{slice_get-get_or}
use Rattle.pv_tree.specs.PathOrder.{IsPathBefore}
use Rattle.pv_tree.proofs.PathOrder.{before_through}
use Rattle.pv_tables.specs.declared.tables.Table.{Table}
use Rattle.pv_table_check.proofs.AscendingLists.{all_ascend, ascend_at, one_more, up_to_one}
use Rattle.pv_table_check.proofs.paths.paths_ascend.Goals as goal

abbrev Before : Table → Table → Type 0
Before t u = IsPathBefore t.path u.path

abbrev no_table : Table
no_table = record { path = []; entries = [] }

pub loop-place-init : goal.loop-place-init
loop-place-init c = up_to_one Before c.args.tables.now _ (omega arith)

pub returns-then-not-ascends_at : goal.returns-then-not-ascends_at
returns-then-not-ascends_at c = (
  λ t. absurd cc,
  λ h.
      let ts = c.args.tables.now in
      let k = c.loop-place.place in
      let lt = c.loop-place-test.true in
      let some = c.loop-place.auto.place in
      let at = slice_get-get_or ts (k - 1) no_table (omega arith) in
      let also = slice_get-get_or ts k no_table (omega arith) in
      let t = (c.ascends_at.ensures (get_or ts (k - 1) no_table) (get_or ts k no_table) at also).1
      (ascend_at Before ts h k (get_or ts (k - 1) no_table) (get_or ts k no_table) (omega arith)
      at also) in
      let f = c.if-not-ascends_at.true in cc,
)

pub loop-place-preserved : goal.loop-place-preserved
loop-place-preserved c = let some = c.loop-place.auto.place in one_more Before c.args.tables.now
    c.loop-place.place (omega arith) c.loop-place.invariant
    (λ d e f g. (c.ascends_at.ensures d e f g).0 c.if-not-ascends_at.false)

pub returns : goal.returns
returns c = (
  λ t. all_ascend Before c.args.tables.now (λ a b d. before_through a.path b.path d.path)
      c.loop-place.place (let z = c.loop-place-test.false in omega arith) c.loop-place.invariant,
  λ h. refl,
)
