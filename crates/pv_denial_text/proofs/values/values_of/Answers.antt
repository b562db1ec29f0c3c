use Rattle.pv_denial_text.proofs.ValueWords.{no-values, value-read}
use Rattle.pv_denial_text.proofs.values.values_of.Goals as goal

pub values-preserved : goal.values-preserved
values-preserved c =
    rw c.in_ok-push.ensures.items (value-read c.args.bytes.now c.values.values.items c.values.rest.now c.in-Some.value c.in-Some.after.now c.values.invariant c.in-Some.ensures)

pub returns-in_default-written_number : goal.returns-in_default-written_number
returns-in_default-written_number c =
    no-values c.args.bytes.now c.values.values.items c.values.rest.now c.values.invariant c.in_default.ensures c.in_default-written_number.ensures
