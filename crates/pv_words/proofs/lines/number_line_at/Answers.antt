use Rattle.std.proofs.Common.{List, ℕ, arith}
use Rattle.pv_chars.proofs.Options.{match_none}
use Rattle.pv_words.specs.Fronts.{IsNumberLine}
use Rattle.pv_words.proofs.Cuts.{no-number-line, number-is-line, past-number-line}
use Rattle.pv_words.proofs.lines.number_line_at.Goals as goal

pub returns-in_err-digits-clause-line : goal.returns-in_err-digits-clause-line
returns-in_err-digits-clause-line c =
    let word = c.args.word.now in
    let bytes = c.args.bytes.now in
    match_none _ ((n : ℕ) (rest : List ℕ) → IsNumberLine word c.args.most bytes n rest → ⊥) (λ r. IsNumberLine word c.args.most bytes r.0 r.1.now) c.from_residual.ensures
    (λ n rest l. c.in_err-digits.ensures.line _ rest (number-is-line word c.args.most bytes n rest (omega arith) l))

pub returns-in_err-number-clause-line : goal.returns-in_err-number-clause-line
returns-in_err-number-clause-line c =
    let word = c.args.word.now in
    let bytes = c.args.bytes.now in
    match_none _ ((n : ℕ) (rest : List ℕ) → IsNumberLine word c.args.most bytes n rest → ⊥) (λ r. IsNumberLine word c.args.most bytes r.0 r.1.now) c.from_residual-in_err-number.ensures
    (no-number-line word c.args.most bytes c.in_ok-digits.digits.now c.in_ok-digits.rest.now c.requires (omega arith) c.in_ok-digits.ensures.line c.in_err-number.ensures)

pub returns-then-most-number-clause-line : goal.returns-then-most-number-clause-line
returns-then-most-number-clause-line c =
    past-number-line c.args.word.now c.args.most c.args.bytes.now c.in_ok-digits.digits.now
    c.in_ok-digits.rest.now c.in_ok-number.number c.requires (omega arith)
    c.in_ok-digits.ensures.line c.in_ok-number.ensures c.if-most-number.true
