use Rattle.std.proofs.Common.{◌∷◌}
use Rattle.std.proofs.lemmas.Result.{on_ok_weaker}
use Rattle.pv_tree.specs.Lists.{lists_from}
use Rattle.pv_tree.specs.Plain.{forest_of}
use Rattle.pv_lists.specs.WholeLists.{next_path, whole_lists}
use Rattle.pv_lists.proofs.Stack.{from_on, inner_notes, inner_whole, list_found}
use Rattle.pv_lists.proofs.ending.judge_inner.Goals as goal

pub judge-requires : goal.judge-requires
judge-requires g c =
    let m = g.J.ListJudge.judgement c.args.judge.now in
    let room = c.requires.room in
    let lists = c.args.lists.now in
    record {
      kids = room.inner.kids;
      is_whole = inner_whole m room.root lists room.inner room.outer room.has_read _ (from_on lists.inner.start c.deref.result.now lists.tokens.items c.deref.ensures.value);
      root = room.root;
      lists = whole_lists (room.inner ∷ room.outer);
      finds = room.has_read.finds;
      few = room.few_lists;
    }

pub returns-clause-finds : goal.returns-clause-finds
returns-clause-finds g c = λ root attrs inner outer ending mark r.
    let m = g.J.ListJudge.judgement c.args.judge.now in
    let lists = c.args.lists.now in
    let whole = inner_whole m root lists inner outer r _ (from_on lists.inner.start c.deref.result.now lists.tokens.items c.deref.ensures.value) in
    on_ok_weaker c.judge.result (λ finds. list_found m root lists inner outer r _ c.deref-2.ensures.value _ attrs ending mark
    (finds root (whole_lists outer) (lists_from (next_path outer) 0 (forest_of inner.kids)) inner.kids r.finds (inner_notes m root lists inner outer r) whole))
    c.judge.ensures
