use Rattle.std.proofs.Common.{arith, inl, inr, ◌≡◌}
use Rattle.pv_layout.specs.FormForms.{plain_all, plain_form}
use Rattle.pv_layout.specs.Forms.{form_at}
use Rattle.pv_layout.proofs.PutValues.{same_or_not}
use Rattle.pv_layout.proofs.ProgramColumns.{form_read}
use Rattle.pv_layout.proofs.mentions.tells_all.Goals as goal

pub loop-number-preserved : goal.loop-number-preserved
loop-number-preserved c = λ s d l o e.
    let n = c.loop-number.number in
    let f : form_at (plain_all c.args.forms.now) n ≡ plain_form c.index-forms-number.result =
    form_read c.args.forms.now n c.index-forms-number.result c.loop-number-test.true c.index-forms-number.is in
    elim (same_or_not s n) [
      | inl z ↦ rw z (c.tells_form.ensures c.if-not-tells_form.false d (rw (z, f) at o) (omega arith))
      | inr ne ↦ c.loop-number.invariant s d (omega arith) o e
    ]
