use Rattle.std.proofs.Common.{ap, ◌∙◌, subst}
use Rattle.pv_dtd.specs.Proper.{IsProperDtd}
use Rattle.pv_productive.specs.PlainForms.{dtd_of}
use Rattle.pv_tree.specs.Lists.{lists_of}
use Rattle.pv_check.specs.declared.widths.Widths.TheVariants as widths
use Rattle.pv_check.proofs.WholeRoots.{proper_text, tells_at_any_width}
use Rattle.pv_check.proofs.checking.check_any_text.Goals as goal

pub returns-in-Ok-clause-tells : goal.returns-in-Ok-clause-tells
returns-in-Ok-clause-tells c = λ doc means.
    let d = dtd_of c.args.judge.now in
    let root = c.args.root.now in
    tells_at_any_width c.live_lists_law.ensures d root doc (subst IsProperDtd (c.dtd.ensures
    ∙ ap dtd_of c.grammar.ensures) c.proper_dtd_law.ensures) (proper_text root c.args.bytes.now
    doc means) c.tell.result (c.tell.ensures widths.Any d root (lists_of doc)
    (c.in-Ok.ensures.finds doc means))
