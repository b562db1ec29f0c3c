use Rattle.pv_chars.proofs.Options.{match_none}
use Rattle.pv_cert.specs.Fronts.{Begins, BeginsNone}
use Rattle.pv_cert.specs.Lines.{body_line}
use Rattle.pv_cert.proofs.Fronts.{open-body, short-body}
use Rattle.pv_cert.proofs.lines.body_at.Goals as goal

pub returns-then-rest-length : goal.returns-then-rest-length
returns-then-rest-length c = short-body c.args.bytes.now c.in_ok-number.number c.in_ok-number.rest.now c.requires c.in_ok-number.ensures.line c.if-rest-length.true

pub returns-in_err-after : goal.returns-in_err-after
returns-in_err-after c =
    let bytes = c.args.bytes.now in
    match_none _ (BeginsNone body_line bytes) (λ r. Begins bytes (body_line r.0.now) r.1.now) c.from_residual-in_err-after.ensures
    (open-body bytes c.in_ok-number.number c.in_ok-number.rest.now c.requires c.in_ok-number.ensures.line (rw c.split_at.ensures.back at c.in_err-after.ensures.found))
