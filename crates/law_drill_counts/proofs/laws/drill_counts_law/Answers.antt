use Rattle.law_drill_counts.proofs.LineCounts.{LineLaws}
use Rattle.law_drill_counts.proofs.Formula.{counts_by_formula, responds_by_formula}
use Rattle.law_drill_counts.proofs.OpenedDrill.{Reading, drills_begin}
use Rattle.law_drill_counts.proofs.laws.drill_counts_law.Goals as goal

pub returns : goal.returns
returns c =
    let known : Reading = record {
      one = c.one_meaning_law.ensures;
      documents = record { means_one = c.one_meaning_law-2.ensures; means = c.meant_law.ensures; spells_one = c.one_document_law.ensures };
      drill_dtd = c.dtd_law.ensures;
      drill_document = c.document_law.ensures;
    } in
    let lines : LineLaws = record { one = c.one_command_law.ensures.one; none = c.none_impossible_law.ensures } in
    record { begins = drills_begin known; counts = counts_by_formula known lines; response = responds_by_formula known lines }
