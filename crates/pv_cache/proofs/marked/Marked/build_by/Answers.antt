use Rattle.std.proofs.Common.{ap, subst, sym, ◌∙◌, ◌≤◌}
use Rattle.pv_tree.specs.Plain.{PlainDoc, nodes_in}
use Rattle.pv_tree.specs.PlainDocs.{plain_doc}
use Rattle.pv_tree.specs.declared.nodes.Mark.{Mark}
use Rattle.pv_cache.specs.AcceptedEdits.{MAX_EDITED_NODES}
use Rattle.pv_cache.specs.Stamps.{stamped_doc_of}
use Rattle.pv_cache.specs.WellMarked.{IsWellMarked, told_bad}
use Rattle.pv_missing.specs.Verdicts.{IsLive}
use Rattle.pv_tree.specs.Lists.{lists_of}
use Rattle.std.specs.List.{AllByRecursion}
use Rattle.pv_cache.proofs.LaidDocuments.{doc_marked, laid_few, no_stamps}
use Rattle.pv_cache.proofs.NoBadLists.{no-bad-laid}
use Rattle.pv_cache.proofs.marked.Marked.build_by.Goals as goal

pub invariant_of-document : goal.invariant_of-document
invariant_of-document c =
    let d = c.args.grammar in
    let doc = plain_doc c.args.doc in
    let vs = c.args.verdicts.verdicts in
    let w = doc_marked d c.args.root vs doc c.requires.verdicts.are_verdicts c.requires.narrow in
    record {
      marked =
          subst (λ (e : PlainDoc Mark). ∥ IsWellMarked d c.args.root e ∥₁)
          (sym c.lay_doc.ensures) ∣ w ∣₁;
      counted = c.bad_by-bad.ensures;
      few =
          subst (λ (e : PlainDoc Mark). nodes_in e.root ≤ MAX_EDITED_NODES) (sym c.lay_doc.ensures)
          (laid_few vs doc c.requires.few);
      held = c.none.ensures d (plain_doc c.lay_doc.new.doc);
    }

pub returns : goal.returns
returns c =
    ap (stamped_doc_of c.args.grammar c.args.root) c.lay_doc.ensures
    ∙ ap (λ e. record { dtd = c.args.grammar; root = c.args.root; doc = e })
    (no_stamps c.args.verdicts.verdicts (plain_doc c.args.doc))

pub bad_by-bad-requires : goal.bad_by-bad-requires
bad_by-bad-requires c none =
    let d = c.args.grammar in
    let doc = plain_doc c.args.doc in
    let vs = c.args.verdicts.verdicts in
    let w = doc_marked d c.args.root vs doc c.requires.verdicts.are_verdicts c.requires.narrow in
    let live : AllByRecursion (IsLive d c.args.root) (lists_of doc) =
    rw none at c.requires.verdicts.is_first in
    ap told_bad c.lay_doc.ensures ∙ no-bad-laid d c.args.root vs doc w live
