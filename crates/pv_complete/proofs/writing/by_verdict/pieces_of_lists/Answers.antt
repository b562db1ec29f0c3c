use Rattle.std.proofs.Common.{refl, ◌∷◌, ◌≡◌}
use Rattle.std.proofs.Math.Logic.{∥∥₁_map}
use Rattle.pv_productive.specs.PlainForms.{dtd_of}
use Rattle.pv_tree.specs.Lists.{lists_of}
use Rattle.pv_tree.specs.PlainDocs.{plain_doc}
use Rattle.pv_tree.specs.ListWalks.{path_come_to}
use Rattle.pv_tree.specs.Walks.{list_given}
use Rattle.pv_write.specs.PieceForms.{plain_lists}
use Rattle.pv_fresh.proofs.Lists.{come_to, come_to_none, left_by}
use Rattle.pv_complete.proofs.PiecesByVerdict.{found_all, found_more, found_none}
use Rattle.pv_complete.proofs.writing.by_verdict.pieces_of_lists.Goals as goal

pub loop-lists-init : goal.loop-lists-init
loop-lists-init c = record {
  found =
      λ are. rw (c.of-lists.ensures.lists, c.new-pieces.ensures.items)
      (found_none (dtd_of c.args.layout.now.grammar.now) c.args.root.now
      (lists_of (plain_doc c.args.doc.now))
      c.args.verdicts.now.verdicts are);
  light = λ l. rw c.of-lists.ensures.lists l;
}

pub next_pieces-requires-clause-next : goal.next_pieces-requires-clause-next
next_pieces-requires-clause-next c =
    let left = come_to c.loop-lists.lists c.next.new.self _ c.in-Some.list c.in-Some.is
    c.in_ok-list.ensures.given in
    ∥∥₁_map c.requires.light (λ h.
    record {
      root = c.args.root.now;
      list = list_given (path_come_to c.next.new.self) c.in-Some.list;
      more = left_by c.next.new.self;
      is_kids = refl;
      is_owner =
          c.owner_under-owner.ensures (list_given (path_come_to c.next.new.self) c.in-Some.list)
          refl;
      verdicts = rw left at (c.loop-lists.invariant.found h.verdicts).verdicts;
      light = (rw left at (c.loop-lists.invariant.light h.light)).0;
    })

pub loop-lists-preserved : goal.loop-lists-preserved
loop-lists-preserved c =
    let d = dtd_of c.args.layout.now.grammar.now in
    let root = c.args.root.now in
    let vs = c.args.verdicts.now.verdicts in
    let list = list_given (path_come_to c.next.new.self) c.in-Some.list in
    let rest = left_by c.next.new.self in
    let left = come_to c.loop-lists.lists c.next.new.self _ c.in-Some.list c.in-Some.is
    c.in_ok-list.ensures.given in
    record {
      found =
          λ are. found_more d root (lists_of (plain_doc c.args.doc.now)) vs list rest
          c.loop-lists.used c.next_pieces.new.used c.loop-lists.pieces.items c.push.new.self.items
          c.in_ok-next.next
          c.in_ok-push.ensures.items (rw left at (c.loop-lists.invariant.found are))
          (c.in_ok-next.ensures root list rest refl (c.owner_under-owner.ensures list refl));
      light = λ l. (rw left at (c.loop-lists.invariant.light l)).1;
    }

pub returns : goal.returns
returns c = λ are.
    let none = come_to_none c.loop-lists.lists c.next.new.self _ c.in_default.is
    c.in_ok-list.ensures.given in
    found_all (dtd_of c.args.layout.now.grammar.now) c.args.root.now
    (lists_of (plain_doc c.args.doc.now)) c.args.verdicts.now.verdicts c.loop-lists.used
    (plain_lists c.loop-lists.pieces.items)
    (rw none at (c.loop-lists.invariant.found are))
