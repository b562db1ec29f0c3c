use Rattle.std.proofs.Common.{List, ap, subst, sym, ◌<◌, ◌^◌, ◌≡◌}
use Rattle.std.specs.List.{between}
use Rattle.pv_edit.specs.FittingChanges.{SuitsChange, plain_task}
use Rattle.pv_edit.specs.Reasons.{items_of, kids_at}
use Rattle.pv_tree.specs.Plain.{Tree, forest_of}
use Rattle.pv_tree.specs.PlainDocs.{plain_doc}
use Rattle.pv_tree.specs.PlainForms.{plain_all}
use Rattle.pv_tree.specs.declared.nodes.Mark.{Mark}
use Rattle.pv_cache.specs.Updates.{IsExchange}
use Rattle.pv_cache.specs.WellMarked.{told_left_in, told_nodes_in}
use Rattle.pv_cache.proofs.LostKids.{gone-left, gone-nodes}
use Rattle.pv_cache.proofs.Tasks.{task-suits}
use Rattle.pv_cache.proofs.well_marked.WellMarked.exchange.Goals as goal

pub exchange_of-requires-clause-suits : goal.exchange_of-requires-clause-suits
exchange_of-requires-clause-suits c =
    let t = c.args.task.now in
    let ch = plain_task t in
    let doc = plain_doc c.args.self.now.doc in
    let kids : plain_all c.in-Some.kids.now ≡ kids_at t.list doc.root =
    ap items_of c.in-Some.ensures in
    let s =
    subst (SuitsChange ch) (sym kids)
    (task-suits doc.root ch c.requires.can c.requires.unshort doc.mark) in
    record { order = s.order; within = s.within; fits = s.fits }

pub exchange_of-requires-clause-left : goal.exchange_of-requires-clause-left
exchange_of-requires-clause-left c =
    let t = c.args.task.now in
    let ch = plain_task t in
    let m = c.args.self.now in
    let doc = plain_doc m.doc in
    let kids : plain_all c.in-Some.kids.now ≡ kids_at t.list doc.root =
    ap items_of c.in-Some.ensures in
    subst (λ (ts : List (Tree Mark)). told_left_in (forest_of (between ch.from ch.to ts)) < 2 ^ 64)
    (sym kids) (gone-left m.grammar m.root doc ch c.requires.can c.requires.unshort
    m.doc.small m.marked)

pub exchange_of-requires-clause-nodes : goal.exchange_of-requires-clause-nodes
exchange_of-requires-clause-nodes c =
    let t = c.args.task.now in
    let ch = plain_task t in
    let m = c.args.self.now in
    let doc = plain_doc m.doc in
    let kids : plain_all c.in-Some.kids.now ≡ kids_at t.list doc.root =
    ap items_of c.in-Some.ensures in
    subst (λ (ts : List (Tree Mark)). told_nodes_in (forest_of (between ch.from ch.to ts)) < 2 ^ 64)
    (sym kids) (gone-nodes m.grammar m.root doc ch c.requires.can c.requires.unshort
    m.doc.small m.marked)

pub returns : goal.returns
returns c =
    let t = c.args.task.now in
    let ch = plain_task t in
    let doc = plain_doc c.args.self.now.doc in
    let kids : plain_all c.in-Some.kids.now ≡ kids_at t.list doc.root =
    ap items_of c.in-Some.ensures in
    let e = c.exchange_of.ensures in
    let is : IsExchange ch (plain_all c.in-Some.kids.now) c.exchange_of.result =
    record { from = e.from; behind = e.behind; left = e.left; nodes = e.nodes } in
    subst (λ (ts : List (Tree Mark)). IsExchange ch ts c.exchange_of.result) kids is
