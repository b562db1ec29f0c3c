use Rattle.std.proofs.Common.{ap}
use Rattle.pv_layout.specs.Forms.{of_element}
use Rattle.pv_layout.specs.declared.forms.Form.TheVariants as form
use Rattle.pv_layout.proofs.LaidColumns.{elements_more}
use Rattle.pv_layout.proofs.layout.all_forms.Goals as goal

pub loop-name-preserved : goal.loop-name-preserved
loop-name-preserved c =
    rw c.in_ok-push.ensures.items (elements_more c.args.contents.now c.loop-name.name c.loop-name.forms.items (form.Element (record { 0 = c.loop-name.name }) c.column_at-content.result)
    c.loop-name.invariant (ap (λ d. of_element c.loop-name.name d) c.column_at-content.ensures))
