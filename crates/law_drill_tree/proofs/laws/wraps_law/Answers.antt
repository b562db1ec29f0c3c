use Rattle.std.proofs.Common.{length, refl}
use Rattle.law_drill_tree.proofs.WrappedSections.{wrap_made}
use Rattle.law_drill_tree.proofs.laws.wraps_law.Goals as goal

pub returns : goal.returns
returns c name front back k named = wrap_made name front back k (length front) refl named
