use Rattle.pv_tables.proofs.Values.{entries_closed}
use Rattle.pv_tables.proofs.laws.entries_closed_law.Goals as goal

pub returns : goal.returns
returns c = λ g w es proper known are. entries_closed g w es are proper.named known (c.spans_law.ensures g w)
