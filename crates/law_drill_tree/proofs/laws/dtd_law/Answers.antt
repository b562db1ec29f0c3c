use Rattle.pv_drill.specs.Drill.{DRILL_DTD}
use Rattle.law_drill_tree.proofs.DtdText.{drill_dtd_limits, drill_dtd_text}
use Rattle.law_drill_tree.proofs.laws.dtd_law.Goals as goal
use Rattle.law_missing.specs.Dtds.{sections_dtd}

pub returns : goal.returns
returns c = (c.dtd_text_law.ensures DRILL_DTD sections_dtd).1 (drill_dtd_text, drill_dtd_limits)
