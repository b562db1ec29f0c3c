use Rattle.law_free.proofs.DerivedTokens.{takes_derives_one}
use Rattle.law_free.proofs.laws.takes_law.Goals as goal

pub returns : goal.returns
returns c = takes_derives_one
