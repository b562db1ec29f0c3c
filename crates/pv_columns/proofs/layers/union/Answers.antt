use Rattle.std.proofs.lemmas.Nat.{le_or_l, or_lt}
use Rattle.pv_columns.proofs.layers.union.Goals as goal

pub returns-clause-most : goal.returns-clause-most
returns-clause-most c = le_or_l c.args.one c.args.other

pub returns-clause-fits : goal.returns-clause-fits
returns-clause-fits c = or_lt 64 c.args.one c.args.other c.ranges.one.fits c.ranges.other.fits
