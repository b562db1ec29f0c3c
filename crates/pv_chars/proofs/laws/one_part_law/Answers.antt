use Rattle.pv_chars.proofs.QuoteLemmas.{same_quoted}
use Rattle.pv_chars.proofs.PartLemmas.{same_part}
use Rattle.pv_chars.proofs.laws.one_part_law.Goals as goal

pub returns-clause-quoted : goal.returns-clause-quoted
returns-clause-quoted c = same_quoted

pub returns-clause-part : goal.returns-clause-part
returns-clause-part c = same_part
