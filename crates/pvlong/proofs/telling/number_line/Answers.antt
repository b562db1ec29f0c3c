use Rattle.pvlong.proofs.ToldLines.{between_line, exact_line}
use Rattle.pvlong.proofs.telling.number_line.Goals as goal

pub returns-in-Exactly : goal.returns-in-Exactly
returns-in-Exactly c = λ root bytes g doc told.
    exact_line root bytes g doc c.in-Exactly.c c.with_number.result (rw c.in-Exactly.is at told) (rw c.from.ensures at c.with_number.ensures)

pub returns-in-Between : goal.returns-in-Between
returns-in-Between c = λ root bytes g doc told.
    between_line root bytes g doc c.in-Between.least c.in-Between.c c.bounds_line.result (rw c.in-Between.is at told) c.bounds_line.ensures
