use Rattle.std.proofs.Common.{◌≤◌, arith, subst, sym}
use Rattle.pv_edit.specs.Changes.{Change, root_after}
use Rattle.pv_tree.specs.Plain.{nodes_in}
use Rattle.pv_tree.specs.PlainDocs.{plain_doc}
use Rattle.pv_tree.specs.declared.nodes.Mark.{Mark}
use Rattle.pv_edit.proofs.PreparedChanges.{doc-kept}
use Rattle.pv_cache.specs.AcceptedEdits.{MAX_EDITED_NODES}
use Rattle.pv_cache.proofs.StampMoves.{few_after, many_after, not_shaped, told_nodes, too_many}
use Rattle.pv_cache.proofs.well_marked.WellMarked.prepare_edit.Goals as goal

pub returns-in_err-ready-clause-refused : goal.returns-in_err-ready-clause-refused
returns-in_err-ready-clause-refused c =
    not_shaped c.args.self.now.grammar c.args.self.now.root (plain_doc c.args.self.now.doc)
    c.args.edit.now c.in_err-ready.field-0.0 c.in_err-ready.ensures.refused
    c.from_residual.result c.from_residual.ensures

pub gives_too_many-requires : goal.gives_too_many-requires
gives_too_many-requires c =
    let n =
    told_nodes c.args.self.now.grammar c.args.self.now.root (plain_doc c.args.self.now.doc)
    c.args.self.now.marked in
    omega (arith, n, c.args.self.now.few)

pub returns-then-gives_too_many-clause-refused : goal.returns-then-gives_too_many-clause-refused
returns-then-gives_too_many-clause-refused c =
    let d = c.args.self.now.grammar in
    let old = plain_doc c.args.self.now.doc in
    let n = told_nodes d c.args.self.now.root old c.args.self.now.marked in
    too_many d c.args.self.now.root old c.args.edit.now c.in_ok-ready.ensures.given
    c.changed_lists_law.ensures.made
    (many_after d c.args.self.now.root old c.args.edit.now c.in_ok-ready.ensures.given
    c.changed_lists_law.ensures.made (doc-kept c.args.self.now.doc) c.nodes_law.ensures
    old.mark.nodes n c.if-gives_too_many.ensures)

pub returns-clause-task : goal.returns-clause-task
returns-clause-task c =
    let d = c.args.self.now.grammar in
    let old = plain_doc c.args.self.now.doc in
    let given = c.in_ok-ready.ensures.given in
    let lists = c.changed_lists_law.ensures.made in
    let n = told_nodes d c.args.self.now.root old c.args.self.now.marked in
    let few =
    few_after d c.args.self.now.root old c.args.edit.now given lists (doc-kept c.args.self.now.doc)
    c.nodes_law.ensures old.mark.nodes n c.if-gives_too_many.ensures in
    record {
      can = c.in_ok-ready.ensures.can;
      unshort = c.in_ok-ready.ensures.unshort;
      bare = c.in_ok-ready.ensures.bare;
      kept = c.in_ok-ready.ensures.kept (omega (arith, c.args.self.now.few));
      few =
          subst (λ (ch : Change Mark). nodes_in (root_after ch.list ch old.root) ≤ MAX_EDITED_NODES)
          (sym c.in_ok-ready.ensures.prepared.change) few;
    }
