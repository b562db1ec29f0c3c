use Rattle.std.proofs.Common.{None, Some, ap, sym, ◌∙◌, ◌≡◌}
use Rattle.std.specs.Option.{option_map}
use Rattle.pv_tree.specs.Places.{at_document, at_node, spot_at}
use Rattle.pv_tree.specs.PlainDocs.{plain_doc, plain_found}
use Rattle.pv_tree.specs.PlainForms.{plain}
use Rattle.pv_cache.specs.BadLists.{own_at}
use Rattle.pv_cache.proofs.well_marked.WellMarked.own_at.Goals as goal

pub returns-in-None : goal.returns-in-None
returns-in-None c =
    let s : spot_at c.args.list.now (plain_doc c.args.self.now.doc).root ≡ None =
    sym c.node_at.ensures ∙ ap (option_map plain_found) c.in-None.is in
    ap (own_at c.args.self.now.doc.mark) (sym s)

pub returns-in-Some-Document : goal.returns-in-Some-Document
returns-in-Some-Document c =
    let s : spot_at c.args.list.now (plain_doc c.args.self.now.doc).root ≡ Some at_document =
    sym c.node_at.ensures
    ∙ ap (option_map plain_found) (c.in-Some-Document.is
    ∙ ap Some c.in-Some-Document.field-0-is) in
    c.own_bad.ensures ∙ ap (own_at c.args.self.now.doc.mark) (sym s)

pub returns-in-Some-Inner : goal.returns-in-Some-Inner
returns-in-Some-Inner c =
    let t = plain c.in-Some-Inner.node.now in
    let s : spot_at c.args.list.now (plain_doc c.args.self.now.doc).root ≡ Some (at_node t) =
    sym c.node_at.ensures
    ∙ ap (option_map plain_found) (c.in-Some-Inner.is ∙ ap Some c.in-Some-Inner.field-0-is) in
    c.own_of.ensures ∙ ap (own_at c.args.self.now.doc.mark) (sym s)
