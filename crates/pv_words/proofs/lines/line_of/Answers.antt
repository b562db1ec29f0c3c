use Rattle.std.proofs.Common.{List, ℕ}
use Rattle.pv_chars.proofs.Options.{match_none}
use Rattle.pv_words.specs.Fronts.{IsLineOf}
use Rattle.pv_words.proofs.Cuts.{line-of, other-word}
use Rattle.pv_words.proofs.lines.line_of.Goals as goal

pub returns-in_err-args-clause-line : goal.returns-in_err-args-clause-line
returns-in_err-args-clause-line c =
    let word = c.args.word.now in
    let bytes = c.args.bytes.now in
    match_none _ ((args rest : List ℕ) → IsLineOf word bytes args rest → ⊥) (λ r. IsLineOf word bytes r.0.now r.1.now) c.from_residual-in_err-args.ensures
    (other-word word bytes c.in_ok-line.line.now c.in_ok-line.rest.now c.requires c.in_ok-line.ensures c.in_err-args.ensures.found)

pub returns-clause-line : goal.returns-clause-line
returns-clause-line c = line-of c.args.word.now c.args.bytes.now c.in_ok-line.line.now c.in_ok-args.args.now c.in_ok-line.rest.now c.in_ok-line.ensures c.in_ok-args.ensures.found
