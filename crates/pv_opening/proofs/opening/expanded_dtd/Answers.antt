use Rattle.std.proofs.Common.{refl}
use Rattle.pv_dtd.specs.PlainForms.{plain_dtd}
use Rattle.pv_params.specs.Meaning.{Expands, expanded}
use Rattle.pv_opening.specs.Opening.{dtd_stage}
use Rattle.pv_opening.specs.Parameters.{RefusesParameters, expansion_stage}
use Rattle.pv_opening.proofs.Stages.{refusal_stops, returned_second, stopped_first}
use Rattle.pv_opening.proofs.opening.expanded_dtd.Goals as goal

pub returns-in-Ok : goal.returns-in-Ok
returns-in-Ok c =
    let read = rw c.deref.ensures.value at c.dtd_of.ensures in
    returned_second plain_dtd (expansion_stage c.args.bytes.now) dtd_stage c.in-Ok.text.items 0 0 c.dtd_of.result (c.in-Ok.ensures.read, refl) read

pub returns-in-Err : goal.returns-in-Err
returns-in-Err c =
    let bytes = c.args.bytes.now in
    stopped_first (expansion_stage bytes) dtd_stage 0 c.refuse_parameters.result
    (refusal_stops (λ text. Expands bytes (expanded text)) (RefusesParameters bytes) c.refuse_parameters.result (c.refuse_parameters.ensures bytes c.in-Err.ensures.refused))
