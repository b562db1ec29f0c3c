use Rattle.std.proofs.Common.{List, ap, arith, subst, sym, ◌≡◌, ◌∙◌}
use Rattle.std.specs.List.{between}
use Rattle.pv_edit.specs.FittingChanges.{SuitsChange, plain_task}
use Rattle.pv_edit.specs.Reasons.{items_of, kids_at}
use Rattle.pv_tree.specs.Places.{spot_at}
use Rattle.pv_tree.specs.Plain.{Tree, forest_of, nodes_in_all}
use Rattle.pv_tree.specs.PlainDocs.{plain_doc}
use Rattle.pv_tree.specs.PlainForms.{plain_all}
use Rattle.pv_tree.specs.declared.nodes.Mark.{Mark}
use Rattle.pv_cache.specs.BadLists.{bad_gone}
use Rattle.pv_cache.proofs.ImpossibleCounts.{few-between, gone-few, own-at-small}
use Rattle.pv_cache.proofs.Tasks.{task-few, task-suits}
use Rattle.pv_cache.proofs.well_marked.WellMarked.bad_lost.Goals as goal

pub bad_taken-requires-clause-suits : goal.bad_taken-requires-clause-suits
bad_taken-requires-clause-suits c =
    let t = c.args.task.now in
    let ch = plain_task t in
    let doc = plain_doc c.args.self.now.doc in
    let kids : plain_all c.in-Some.kids.now ≡ kids_at t.list doc.root =
    ap items_of c.in-Some.ensures in
    let s =
    subst (SuitsChange ch) (sym kids)
    (task-suits doc.root ch c.requires.can c.requires.unshort doc.mark) in
    record { order = s.order; within = s.within; fits = s.fits }

pub bad_taken-requires-clause-small : goal.bad_taken-requires-clause-small
bad_taken-requires-clause-small c =
    let t = c.args.task.now in
    let doc = plain_doc c.args.self.now.doc in
    let kids : plain_all c.in-Some.kids.now ≡ kids_at t.list doc.root =
    ap items_of c.in-Some.ensures in
    let few = task-few doc.root (plain_task t) c.requires.can c.requires.unshort doc.mark in
    omega (
      arith,
      ap (λ (ts : List (Tree Mark)). nodes_in_all (forest_of ts)) kids,
      few,
      c.args.self.now.doc.small,
    )

pub overflow_add-result : goal.overflow_add-result
overflow_add-result c =
    let t = c.args.task.now in
    let ch = plain_task t in
    let doc = plain_doc c.args.self.now.doc in
    let kids : plain_all c.in-Some.kids.now ≡ kids_at t.list doc.root =
    ap items_of c.in-Some.ensures in
    let suits = task-suits doc.root ch c.requires.can c.requires.unshort doc.mark in
    let old = between ch.from ch.to (plain_all c.in-Some.kids.now) in
    let few = few-between (plain_all c.in-Some.kids.now) ch.from ch.to suits.order in
    let all = task-few doc.root ch c.requires.can c.requires.unshort doc.mark in
    omega (
      arith,
      c.own_at.ensures,
      own-at-small doc.mark (spot_at t.list doc.root),
      c.bad_taken.ensures,
      gone-few ch.filling old,
      few,
      ap (λ (ts : List (Tree Mark)). nodes_in_all (forest_of ts)) kids,
      all,
      c.args.self.now.doc.small,
    )

pub returns : goal.returns
returns c =
    let t = c.args.task.now in
    let ch = plain_task t in
    let doc = plain_doc c.args.self.now.doc in
    let kids : plain_all c.in-Some.kids.now ≡ kids_at t.list doc.root =
    ap items_of c.in-Some.ensures in
    let taken : c.bad_taken.result
    ≡ bad_gone ch.filling (between ch.from ch.to (kids_at t.list doc.root)) =
    c.bad_taken.ensures
    ∙ ap (λ (ts : List (Tree Mark)). bad_gone ch.filling (between ch.from ch.to ts)) kids in
    omega (arith, c.own_at.ensures, taken)
