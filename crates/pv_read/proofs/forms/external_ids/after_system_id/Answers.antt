use Rattle.pv_chars.specs.Fronts.{Begins, BeginsNone}
use Rattle.pv_tree.specs.Prolog.{IsSystemLiteral, IsSystemId}
use Rattle.pv_chars.proofs.Options.{match_none, match_same}
use Rattle.pv_read.proofs.ExternalLemmas.{system_by, no_system_word, no_system_literal}
use Rattle.pv_read.proofs.forms.external_ids.after_system_id.Goals as goal

pub returns-in_err-literal : goal.returns-in_err-literal
returns-in_err-literal c =
    let bytes = c.args.bytes.now in
    match_none _ (BeginsNone IsSystemId bytes) (λ r. Begins IsSystemId bytes r.now) c.from_residual.ensures (no_system_word bytes c.in_err-literal.ensures)

pub returns : goal.returns
returns c =
    let bytes = c.args.bytes.now in
    let literal = c.in_ok-literal.literal.now in
    match_same _ (BeginsNone IsSystemLiteral literal) (BeginsNone IsSystemId bytes) (λ r. Begins IsSystemLiteral literal r.now) (λ r. Begins IsSystemId bytes r.now)
    (no_system_literal bytes literal c.in_ok-literal.ensures) (λ r b. system_by bytes literal r.now c.in_ok-literal.ensures b) c.after_system_literal.ensures
