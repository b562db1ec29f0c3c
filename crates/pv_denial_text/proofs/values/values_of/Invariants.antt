use Rattle.std.proofs.Common.{length}
use Rattle.pv_denial_text.proofs.ValueWords.{HaveRead}
use Rattle.pv_denial_text.proofs.values.values_of.Given as goal

abbrev pub invariant-values : goal.invariant-values
invariant-values l = HaveRead l.initial.rest l.values.items l.rest

abbrev pub decreases-values : goal.decreases-values
decreases-values l = length l.rest
