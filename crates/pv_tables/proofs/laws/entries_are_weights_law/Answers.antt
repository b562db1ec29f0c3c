use Rattle.pv_tables.proofs.Values.{entry_weighs}
use Rattle.pv_tables.proofs.laws.entries_are_weights_law.Goals as goal

pub returns : goal.returns
returns c = λ g w es s i j are site span. entry_weighs g w es are s i j site span
