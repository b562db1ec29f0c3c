use Rattle.std.proofs.Common.{◌+◌, refl}
use Rattle.std.proofs.lemmas.Result.{err_from_is_err_and}
use Rattle.pv_lists.proofs.RootItems.{none_read, grows, room, refused_at, one_more, last_one}
use Rattle.pv_lists.proofs.content.read_content.Goals as goal

pub items-init : goal.items-init
items-init g c = (
  none_read c.args.most_depth (g.J.ListJudge.judgement c.args.judge.now)
      c.args.root.now c.args.tag.now.name.now c.args.tag.now.attrs.now c.args.bytes.now c.args.first
      c.in_ok-lists.lists (c.in_ok-lists.ensures.read c.args.root.now c.args.tag.now.attrs.now),
  c.in_ok-lists.ensures.types,
)

pub read_item-requires-clause-grow : goal.read_item-requires-clause-grow
read_item-requires-clause-grow g c = grows c.items.invariant.0 c.requires

pub read_item-requires-clause-room : goal.read_item-requires-clause-room
read_item-requires-clause-room g c = room c.items.invariant.0 c.requires

pub returns-in_err-whole-clause-refused : goal.returns-in_err-whole-clause-refused
returns-in_err-whole-clause-refused g c =
    let from = err_from_is_err_and c.from_residual-in_err-whole.result c.from_residual-in_err-whole.ensures.1 in
    rw (from.1, from.2) (refused_at c.items.invariant.0 _ c.in_err-whole.ensures.refused)

pub returns-then-whole-clause-read : goal.returns-then-whole-clause-read
returns-then-whole-clause-read g c =
    let step = c.in_ok-whole.ensures.step c.items.invariant.0.inner c.items.invariant.0.outer c.items.invariant.0.has_read in
    last_one c.items.invariant.0 c.read_item.new.lists c.in_ok-whole.more.now c.in_ok-whole.ensures.within (c.items.count + 1) refl (rw c.if-whole.true at step)

pub items-preserved : goal.items-preserved
items-preserved g c =
    let step = c.in_ok-whole.ensures.step c.items.invariant.0.inner c.items.invariant.0.outer c.items.invariant.0.has_read in
    (one_more c.items.invariant.0 c.read_item.new.lists c.in_ok-whole.more.now c.in_ok-whole.ensures.within (c.items.count + 1) refl (rw c.if-whole.false at step), c.in_ok-whole.ensures.types)

pub returns-in_err-lists-clause-refused : goal.returns-in_err-lists-clause-refused
returns-in_err-lists-clause-refused g c =
    let from = err_from_is_err_and c.from_residual.result c.from_residual.ensures.1 in
    rw (from.1, from.2) (λ before. tt)
