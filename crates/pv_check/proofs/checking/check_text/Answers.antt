use Rattle.std.proofs.Common.{ap, ◌∙◌, subst}
use Rattle.pv_dtd.specs.Proper.{IsProperDtd}
use Rattle.pv_productive.specs.PlainForms.{dtd_of}
use Rattle.pv_tree.specs.Lists.{lists_of}
use Rattle.pv_check.specs.declared.widths.Widths.TheVariants as widths
use Rattle.pv_check.proofs.WholeRoots.{proper_text, tells_document}
use Rattle.pv_check.proofs.checking.check_text.Goals as goal

pub returns-clause-tells : goal.returns-clause-tells
returns-clause-tells g c = λ doc means.
    let d = dtd_of c.args.judge.now in
    let root = c.args.root.now in
    tells_document c.live_lists_law.ensures d root doc (subst IsProperDtd (c.dtd.ensures
    ∙ ap dtd_of c.grammar.ensures) c.proper_dtd_law.ensures) (proper_text root c.args.bytes.now
    doc means) c.tell-told.result (c.tell-told.ensures widths.Limited d root (lists_of doc)
    (c.in_ok-found.ensures.finds doc means))

pub returns-clause-counts : goal.returns-clause-counts
returns-clause-counts g c =
    λ doc means. c.count.ensures (lists_of doc) (c.in_ok-found.ensures.finds doc means).count
