use Rattle.law_free.proofs.DerivedTokens.{derived_are_taken}
use Rattle.law_free.proofs.laws.derived_law.Goals as goal

pub returns : goal.returns
returns c = derived_are_taken
