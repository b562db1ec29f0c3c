use Rattle.pv_chars.proofs.MeansLemmas.{text_means_only}
use Rattle.pv_chars.proofs.CutLemmas.{units_in-joined}
use Rattle.pv_chars.proofs.laws.one_meaning_law.Goals as goal

pub returns-clause-text : goal.returns-clause-text
returns-clause-text c = text_means_only

pub returns-clause-units : goal.returns-clause-units
returns-clause-units c = units_in-joined
