use Rattle.std.proofs.Common.{ap, sym, ◌∙◌, ◌≡◌}
use Rattle.std.proofs.lemmas.List.{get_or-map}
use Rattle.pv_layout.specs.FormForms.{plain_all, plain_form}
use Rattle.pv_layout.specs.Forms.{form_at, of_none}
use Rattle.pv_bounds.specs.Fronts.{empty_cost}
use Rattle.pv_bounds.specs.HoldingForms.{EmptyHolds}
use Rattle.pv_bounds.proofs.LevelCuts.{below_one_more}
use Rattle.pv_bounds.proofs.empties.empties_hold.Goals as goal

pub loop-number-preserved : goal.loop-number-preserved
loop-number-preserved c =
    let forms = c.args.forms.now in
    let n = c.loop-number.number in
    let read = c.index-forms-number in
    let at : form_at (plain_all forms) n ≡ plain_form read.result =
    get_or-map plain_form forms n read.result of_none c.loop-number-test.true ∙
    ap plain_form (sym read.is) in
    below_one_more (λ k. EmptyHolds (empty_cost c.args.fronts.now.empty.items) k
    (form_at (plain_all forms) k)) n c.loop-number.invariant
    (rw at (c.empty_holds.ensures c.if-not-empty_holds.false))
