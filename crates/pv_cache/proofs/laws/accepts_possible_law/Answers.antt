use Rattle.pv_cache.proofs.AcceptedDocuments.{accepts_the_possible}
use Rattle.pv_cache.proofs.laws.accepts_possible_law.Goals as goal

pub returns : goal.returns
returns g c = accepts_the_possible _ c.none_impossible_law.ensures
