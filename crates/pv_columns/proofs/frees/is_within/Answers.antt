use Rattle.std.proofs.lemmas.Bool.{eqb-true}
use Rattle.pv_columns.proofs.RepeatedColumns.{within}
use Rattle.pv_columns.proofs.frees.is_within.Goals as goal

pub returns : goal.returns
returns c = λ z k h. within c.args.small c.args.big c.union.result k c.union.ensures.value (eqb-true c.union.result c.args.big z) h
