use Rattle.pv_chars.proofs.Options.{match_none}
use Rattle.pv_denial_text.specs.Fronts.{Begins, BeginsNone}
use Rattle.pv_denial_text.specs.Lines.{cause_line}
use Rattle.pv_denial_text.proofs.Heads.{other-cause}
use Rattle.pv_denial_text.proofs.lines.cause_at.Goals as goal

pub returns-in_err-cause-clause-cause : goal.returns-in_err-cause-clause-cause
returns-in_err-cause-clause-cause c =
    let bytes = c.args.bytes.now in
    match_none _ (BeginsNone cause_line bytes) (λ r. Begins bytes (cause_line r.0) r.1.now) c.from_residual-in_err-cause.ensures
    (other-cause bytes c.in_ok-word.word.now c.in_ok-word.rest.now c.in_ok-word.ensures.line c.in_err-cause.ensures)
