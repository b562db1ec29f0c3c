use Rattle.std.proofs.Common.{ℕ, List, Option}
use Rattle.std.proofs.lemmas.Result.{err_from_is_err_and}
use Rattle.pv_dtd.specs.PlainForms.{plain_dtd}
use Rattle.pv_opening.specs.Opening.{IsFile, dtd_file_stage}
use Rattle.pv_commands.specs.Standoff.{text_file_stage}
use Rattle.pv_opening.proofs.StagePairs.{both_open, first_stops, second_stops}
use Rattle.pv_opening.proofs.Stages.{some_file}
use Rattle.pv_commands.proofs.standoff.open_dtd_and_text.Goals as goal

-- the file of this name
abbrev OfName : List ℕ → Option (List (List ℕ × List ℕ)) → Option (List ℕ) → Type 0
OfName name told file = IsFile told name file

pub returns-in_err-dtd-clause-over : goal.returns-in_err-dtd-clause-over
returns-in_err-dtd-clause-over g c =
    let named = c.args.named.now in
    let third = some_file _ named.text.now in
    let p = err_from_is_err_and c.from_residual.result c.from_residual.ensures.1 in
    rw (p.1, p.2)
    (first_stops (OfName named.dtd.now) (OfName named.text.now) plain_dtd dtd_file_stage
    (λ (u : List (List ℕ)). u) text_file_stage _ _ c.in_err-dtd.field-0.0 third.0 third.1
    c.in_err-dtd.ensures.over)

pub returns-in_err-text-clause-over : goal.returns-in_err-text-clause-over
returns-in_err-text-clause-over g c =
    let named = c.args.named.now in
    let p = err_from_is_err_and c.from_residual-in_err-text.result
    c.from_residual-in_err-text.ensures.1 in
    rw (p.1, p.2)
    (second_stops (OfName named.dtd.now) (OfName named.text.now) plain_dtd dtd_file_stage
    (λ (u : List (List ℕ)). u) text_file_stage _ _ _ c.in_ok-dtd.dtd c.in_ok-dtd.ensures.over
    c.in_err-text.field-0.0 c.in_err-text.ensures.over)

pub returns-clause-over : goal.returns-clause-over
returns-clause-over g c =
    let named = c.args.named.now in
    both_open (OfName named.dtd.now) (OfName named.text.now) plain_dtd dtd_file_stage
    (λ (u : List (List ℕ)). u) text_file_stage _ _ _ c.in_ok-dtd.dtd c.in_ok-dtd.ensures.over
    c.in_ok-text.text
    c.in_ok-text.ensures.over
