use Rattle.std.proofs.Common.{refl, arith}
use Rattle.pv_check.proofs.PossibleCounts.{none_possible}
use Rattle.pv_check.proofs.findings.Findings.none.Goals as goal

pub returns : goal.returns
returns c = λ s g root. record {
  first_wide = tt;
  first = tt;
  possible = λ none. none_possible g root 0 refl;
  few_possible = omega arith;
  count = refl;
  kept = c.nothing.ensures s g;
}
