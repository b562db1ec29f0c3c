use Rattle.std.proofs.Common.{None, Some, ap, subst, sym, ◌∙◌, ◌≡◌}
use Rattle.std.specs.Option.{MatchOption, option_map}
use Rattle.pv_tree.specs.Places.{at_document, at_node, list_at, spot_at}
use Rattle.pv_tree.specs.PlainDocs.{plain_doc, plain_found}
use Rattle.pv_tree.specs.PlainForms.{plain}
use Rattle.pv_cache.specs.Rows.{IsVerdictAt}
use Rattle.pv_cache.specs.Stamps.{StampedDoc}
use Rattle.pv_cache.specs.WellMarked.{told_verdict}
use Rattle.pv_cache.proofs.ToldRows.{verdict_of_node, verdict_of_none, verdict_of_top}
use Rattle.pv_cache.proofs.marked.Marked.verdict_at.Goals as goal

pub returns-in-None : goal.returns-in-None
returns-in-None c =
    let m = c.self.inside in
    let path = c.args.path.now in
    let s : spot_at path (plain_doc m.document.doc).root ≡ None =
    sym c.node_at.ensures ∙ ap (option_map plain_found) c.in-None.is in
    subst (λ (s : StampedDoc). list_at path s.doc.root ≡ None) c.self.view_is
    (verdict_of_none m.document.grammar m.document.root (plain_doc m.document.doc)
    c.self.inside.document.marked path s)

pub returns-in-Some-Document : goal.returns-in-Some-Document
returns-in-Some-Document c =
    let m = c.self.inside in
    let path = c.args.path.now in
    let s : spot_at path (plain_doc m.document.doc).root ≡ Some at_document =
    sym c.node_at.ensures
    ∙ ap (option_map plain_found) (c.in-Some-Document.is ∙ ap Some c.in-Some-Document.field-0-is) in
    subst (λ (s : StampedDoc). IsVerdictAt s.dtd s.root s.doc path m.document.doc.mark.verdict)
    c.self.view_is
    (verdict_of_top m.document.grammar m.document.root (plain_doc m.document.doc)
    c.self.inside.document.marked path s)

pub returns-in-Some-Inner : goal.returns-in-Some-Inner
returns-in-Some-Inner c =
    let m = c.self.inside in
    let path = c.args.path.now in
    let t = plain c.in-Some-Inner.node.now in
    let s : spot_at path (plain_doc m.document.doc).root ≡ Some (at_node t) =
    sym c.node_at.ensures
    ∙ ap (option_map plain_found) (c.in-Some-Inner.is ∙ ap Some c.in-Some-Inner.field-0-is) in
    rw c.told_verdict.ensures
    (subst (λ (s : StampedDoc).
    MatchOption (told_verdict t) (list_at path s.doc.root ≡ None)
    (IsVerdictAt s.dtd s.root s.doc path)) c.self.view_is
    (verdict_of_node m.document.grammar m.document.root (plain_doc m.document.doc)
    c.self.inside.document.marked path t s))
