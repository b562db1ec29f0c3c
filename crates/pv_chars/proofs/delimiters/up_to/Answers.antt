use Rattle.pv_chars.specs.Fronts.{ContainsBytes, EndsAt}
use Rattle.pv_chars.proofs.Options.{match_none}
use Rattle.pv_chars.proofs.DelimiterPlaces.{holds_none, ends_cut}
use Rattle.pv_chars.proofs.delimiters.up_to.Goals as goal

pub returns-in_err-at : goal.returns-in_err-at
returns-in_err-at c =
    let bytes = c.args.bytes.now in
    let delimiter = c.args.delimiter.now in
    match_none _ (ContainsBytes bytes delimiter → ⊥) (λ r. EndsAt delimiter bytes r.0.now r.1.now) c.from_residual.ensures (holds_none bytes delimiter c.in_err-at.ensures)

pub returns : goal.returns
returns c =
    let found = c.in_ok-at.ensures in
    ends_cut c.args.delimiter.now c.args.bytes.now c.split_at.result.0.now c.split_at.result.1.now
    c.split_at-2.result.1.now c.in_ok-at.at found.1 found.0 c.split_at.ensures.front
    c.split_at.ensures.back c.split_at-2.ensures.back
