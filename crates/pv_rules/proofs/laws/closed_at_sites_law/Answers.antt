use Rattle.pv_rules.proofs.ClosedSites.{closed_at_sites}
use Rattle.pv_rules.proofs.laws.closed_at_sites_law.Goals as goal

pub returns : goal.returns
returns c = closed_at_sites
