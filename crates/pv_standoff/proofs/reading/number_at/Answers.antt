use Rattle.std.proofs.Common.{◌≡◌, None, Some}
use Rattle.pv_chars.proofs.Options.{match_none}
use Rattle.pv_standoff.specs.Lines.{number_at}
use Rattle.pv_standoff.proofs.ReadingLemmas.{no_number, no_word, number_found}
use Rattle.pv_standoff.proofs.reading.number_at.Goals as goal

pub returns-in_err-word : goal.returns-in_err-word
returns-in_err-word c =
    let bytes = c.args.bytes.now in
    match_none _ (number_at bytes ≡ None) (λ r. number_at bytes ≡ Some (r.0, r.1.now)) c.from_residual.ensures (no_word bytes c.in_err-word.ensures)

pub returns-in_err-number : goal.returns-in_err-number
returns-in_err-number c =
    let bytes = c.args.bytes.now in
    match_none _ (number_at bytes ≡ None) (λ r. number_at bytes ≡ Some (r.0, r.1.now)) c.from_residual-in_err-number.ensures
    (no_number bytes c.in_ok-word.word.now c.in_ok-word.rest.now c.in_ok-word.ensures c.in_err-number.ensures)

pub returns : goal.returns
returns c = number_found c.args.bytes.now c.in_ok-word.word.now c.in_ok-word.rest.now c.in_ok-number.number c.in_ok-word.ensures c.in_ok-number.ensures
