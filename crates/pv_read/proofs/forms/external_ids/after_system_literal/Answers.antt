use Rattle.std.proofs.lemmas.Bool.{iff_false}
use Rattle.pv_chars.specs.Characters.{IsChars}
use Rattle.pv_chars.specs.Fronts.{Begins, BeginsNone}
use Rattle.pv_tree.specs.Prolog.{IsSystemLiteral}
use Rattle.pv_chars.proofs.Options.{match_none}
use Rattle.pv_read.proofs.ExternalLemmas.{no_literal, no_value}
use Rattle.pv_read.proofs.forms.external_ids.after_system_literal.Goals as goal

pub returns-in_err-value : goal.returns-in_err-value
returns-in_err-value c =
    let bytes = c.args.bytes.now in
    match_none _ (BeginsNone IsSystemLiteral bytes) (λ r. Begins IsSystemLiteral bytes r.now) c.from_residual.ensures (no_literal IsChars bytes c.in_err-value.ensures)

pub returns-then-not-are_chars : goal.returns-then-not-are_chars
returns-then-not-are_chars c = no_value IsChars c.args.bytes.now c.in_ok-value.value.now c.in_ok-value.rest.now c.in_ok-value.ensures (iff_false c.are_chars.ensures c.if-not-are_chars.true)
