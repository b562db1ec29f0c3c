use Rattle.law_drill_counts.proofs.PrintedDrill.{prints_formula}
use Rattle.law_drill_counts.proofs.laws.drill_prints_law.Goals as goal

pub returns : goal.returns
returns g c = prints_formula _ c.drill_counts_law.ensures.response c.complete_law.ensures
