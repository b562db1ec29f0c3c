use Rattle.std.proofs.Common.{[], append-nil, append_assoc, refl, ◌∷◌}
use Rattle.pv_productive.specs.PlainForms.{dtd_of}
use Rattle.pv_tree.specs.PlainDocs.{plain_doc}
use Rattle.pv_tree.specs.ListWalks.{path_come_to}
use Rattle.pv_tree.specs.Walks.{list_given}
use Rattle.pv_missing.specs.Verdicts.{IsVerdict}
use Rattle.pv_fresh.proofs.Lists.{all_hold, come_to, come_to_none}
use Rattle.pv_fresh.proofs.judging.judge_lists.Goals as goal

pub loop-lists-init : goal.loop-lists-init
loop-lists-init c = record {
  fits = rw c.of-lists.ensures.lists c.requires;
  hold = rw c.of-lists.ensures.lists (all_hold (plain_doc c.args.doc.now));
  judged = λ last are. rw c.new-verdicts.ensures.items (rw c.of-lists.ensures.lists at are);
}

pub judge_list-requires : goal.judge_list-requires
judge_list-requires c = (rw (come_to c.loop-lists.lists c.next.new.self _ c.in-Some.list c.in-Some.is c.in_ok-list.ensures.given) at c.loop-lists.invariant.fits).0

pub loop-lists-preserved : goal.loop-lists-preserved
loop-lists-preserved c =
    let list = list_given (path_come_to c.next.new.self) c.in-Some.list in
    let v = c.in_ok-verdict.verdict in
    let left = come_to c.loop-lists.lists c.next.new.self _ c.in-Some.list c.in-Some.is c.in_ok-list.ensures.given in
    let fits = rw left at c.loop-lists.invariant.fits in
    let hold = rw left at c.loop-lists.invariant.hold in
    let is : IsVerdict (dtd_of c.args.judge.now) c.args.root.now list v = c.in_ok-verdict.ensures (path_come_to c.next.new.self) hold.0 in
    record {
      fits = fits.1;
      hold = hold.1;
      judged = λ last are. rw (c.in_ok-push.ensures.items, append_assoc) (c.loop-lists.invariant.judged (v ∷ last) (rw left (v, last, refl, is, are)));
    }

pub returns : goal.returns
returns c =
    let none = come_to_none c.loop-lists.lists c.next.new.self _ c.in_default.is c.in_ok-list.ensures.given in
    rw append-nil at (c.loop-lists.invariant.judged [] (rw none refl))
