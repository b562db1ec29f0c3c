use Rattle.pv_tables.proofs.Values.{site_same}
use Rattle.pv_tables.proofs.laws.sites_law.Goals as goal

pub returns : goal.returns
returns c = site_same
