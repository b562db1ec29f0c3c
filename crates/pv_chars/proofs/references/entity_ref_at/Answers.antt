use Rattle.pv_chars.specs.Fronts.{Begins}
use Rattle.pv_chars.specs.References.{IsEntityRef, BeginsNoEntityRef}
use Rattle.pv_chars.proofs.Options.{match_none}
use Rattle.pv_chars.proofs.ReferenceLemmas.{no_entity_ref_end}
use Rattle.pv_chars.proofs.references.entity_ref_at.Goals as goal

pub returns-in_err-rest : goal.returns-in_err-rest
returns-in_err-rest c =
    let bytes = c.args.bytes.now in
    match_none _ (BeginsNoEntityRef bytes) (λ r. Begins (IsEntityRef r.0.now) bytes r.1.now) c.from_residual-in_err-rest.ensures
    (no_entity_ref_end bytes c.in_ok-start.start.now c.in_ok-name.name.now c.in_ok-name.end.now c.in_ok-start.ensures.found c.in_ok-name.ensures.found c.in_err-rest.ensures.found)
