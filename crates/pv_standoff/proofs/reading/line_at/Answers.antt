use Rattle.std.proofs.Common.{[], ◌∷◌, sym, ap, ◌∙◌}
use Rattle.pv_chars.proofs.MeansLemmas.{not_empty}
use Rattle.pv_words.specs.Lines.{lines_of}
use Rattle.pv_standoff.proofs.ReadingLemmas.{line_cut_off, line_ended}
use Rattle.pv_standoff.proofs.reading.line_at.Goals as goal

pub returns-in-Some-clause-lines : goal.returns-in-Some-clause-lines
returns-in-Some-clause-lines c =
    line_ended c.args.bytes.now c.in-Some.line.now c.in-Some.rest.now c.in-Some.ensures ∙ ap (λ z. z ∷ lines_of c.in-Some.rest.now) (sym c.without_returns.ensures)

pub returns-in-None-clause-lines : goal.returns-in-None-clause-lines
returns-in-None-clause-lines c =
    line_cut_off c.args.bytes.now (not_empty c.args.bytes.now c.is_empty.result c.is_empty.ensures c.if-is_empty.false) c.in-None.ensures
    ∙ ap (λ z. z ∷ []) (sym c.without_returns-in-None.ensures)
