use Rattle.std.proofs.Common.{[], refl, subst, ◌∷◌, ◌≡◌}
use Rattle.std.proofs.lemmas.Result.{err_from_is_err_and}
use Rattle.pv_productive.specs.PlainForms.{dtd_of}
use Rattle.pv_tree.specs.ListWalks.{path_come_to}
use Rattle.pv_tree.specs.Walks.{list_given}
use Rattle.pv_fresh.proofs.Lists.{come_to, come_to_none, left_by}
use Rattle.pv_complete.specs.PlainForms.{made_of}
use Rattle.pv_complete.specs.TableWalks.{MakesTables, StopsTables}
use Rattle.pv_complete.specs.declared.errors.NeedError.{NeedError}
use Rattle.pv_complete.proofs.MadeTables.{makes_nothing, makes_on, tables_before, tables_behind}
use Rattle.pv_complete.proofs.listings.tabling.table_doc.Goals as goal

pub loop-lists-init : goal.loop-lists-init
loop-lists-init c = record {
  makes = λ last f. rw c.of-lists.ensures.lists at f;
  stops = λ e f. rw c.of-lists.ensures.lists at f;
}

pub loop-lists-preserved : goal.loop-lists-preserved
loop-lists-preserved c =
    let d = dtd_of c.args.layout.now.grammar.now in
    let root = c.args.root.now in
    let vs = c.args.verdicts.now.verdicts in
    let list = list_given (path_come_to c.next.new.self) c.in-Some.list in
    let rest = left_by c.next.new.self in
    let old = made_of c.loop-lists.made in
    let new = made_of c.table_list.new.made in
    let left = come_to c.loop-lists.lists c.next.new.self _ c.in-Some.list c.in-Some.is c.in_ok-list.ensures.given in
    let one : MakesTables d root (list ∷ []) vs old new = c.in_ok-table_list.ensures.tabled root list refl refl (c.owner_under-owner.ensures list refl) in
    record {
      makes = λ last f. c.loop-lists.invariant.makes last (rw left (makes_on d root vs (list ∷ []) rest old new last one f));
      stops = λ e f. c.loop-lists.invariant.stops e (rw left (tables_behind d root vs (list ∷ []) rest old new e one f));
    }

pub returns-in_err-table_list-clause-refused : goal.returns-in_err-table_list-clause-refused
returns-in_err-table_list-clause-refused c =
    let d = dtd_of c.args.layout.now.grammar.now in
    let root = c.args.root.now in
    let vs = c.args.verdicts.now.verdicts in
    let list = list_given (path_come_to c.next.new.self) c.in-Some.list in
    let rest = left_by c.next.new.self in
    let old = made_of c.loop-lists.made in
    let left = come_to c.loop-lists.lists c.next.new.self _ c.in-Some.list c.in-Some.is c.in_ok-list.ensures.given in
    let p = err_from_is_err_and c.from_residual-in_err-table_list.result c.from_residual-in_err-table_list.ensures.1 in
    rw p.1 (
    let q = p.2 in
    let same : c.in_err-table_list.field-0.0 ≡ p.0 = cc in
    let stop : StopsTables d root (list ∷ []) vs old c.in_err-table_list.field-0.0 = c.in_err-table_list.ensures.refused root list refl refl (c.owner_under-owner.ensures list refl) in
    c.loop-lists.invariant.stops p.0 (rw left (tables_before d root vs (list ∷ []) rest old p.0
    (subst (λ (e : NeedError). StopsTables d root (list ∷ []) vs old e) same stop))))

pub returns-clause-tabled : goal.returns-clause-tabled
returns-clause-tabled c =
    let d = dtd_of c.args.layout.now.grammar.now in
    let last = made_of c.loop-lists.made in
    let none = come_to_none c.loop-lists.lists c.next.new.self _ c.in_default.is c.in_ok-list.ensures.given in
    c.loop-lists.invariant.makes last (rw none (makes_nothing d c.args.root.now c.args.verdicts.now.verdicts last))
