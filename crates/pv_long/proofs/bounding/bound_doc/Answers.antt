use Rattle.std.proofs.Common.{[], refl, ◌∷◌}
use Rattle.pv_productive.specs.PlainForms.{dtd_of}
use Rattle.pv_tree.specs.ListWalks.{path_come_to}
use Rattle.pv_tree.specs.Walks.{list_given}
use Rattle.pv_fresh.proofs.Lists.{come_to, come_to_none, left_by}
use Rattle.pv_long.specs.AddedBounds.{AreBounded}
use Rattle.pv_long.proofs.BoundSums.{both_bounded, none_bounded}
use Rattle.pv_long.proofs.bounding.bound_doc.Goals as goal

pub loop-lists-init : goal.loop-lists-init
loop-lists-init g c = (
  c.none-bounds.ensures (dtd_of c.args.known.now.layout.now.grammar.now),
  λ last more. rw (c.none-found.ensures, c.of-lists.ensures.lists) at more,
)

pub loop-lists-preserved : goal.loop-lists-preserved
loop-lists-preserved g c = (
  c.bound_list.ensures.known,
  λ last more.
      let d = dtd_of c.args.known.now.layout.now.grammar.now in
      let root = c.args.root.now in
      let list = list_given (path_come_to c.next.new.self) c.in-Some.list in
      let old = c.loop-lists.found.least in
      let new = c.bound_list.new.found.least in
      let one : AreBounded d root (list ∷ []) old new =
      c.in_ok-bound_list.ensures.bounded root list refl (c.owner_under-owner.ensures list refl) in
      c.loop-lists.invariant.1 last
      (rw (come_to c.loop-lists.lists c.next.new.self _ c.in-Some.list c.in-Some.is
      c.in_ok-list.ensures.given)
      (both_bounded d root (list ∷ []) (left_by c.next.new.self) old new last one more)),
)

pub returns : goal.returns
returns g c =
    let d = dtd_of c.args.known.now.layout.now.grammar.now in
    let last = c.loop-lists.found.least in
    c.loop-lists.invariant.1 last
    (rw (come_to_none c.loop-lists.lists c.next.new.self _ c.in_default.is c.in_ok-list.ensures.given) (none_bounded d c.args.root.now last))
