use Rattle.pv_cli.proofs.Completeness.{complete}
use Rattle.pv_cli.proofs.laws.complete_law.Goals as goal

pub returns : goal.returns
returns g c = complete _
