use Rattle.pv_rules.proofs.SitesKept.{sites_kept}
use Rattle.pv_rules.proofs.laws.sites_law.Goals as goal

pub returns : goal.returns
returns c = sites_kept
