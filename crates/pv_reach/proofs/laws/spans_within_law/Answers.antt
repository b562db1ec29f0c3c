use Rattle.pv_reach.proofs.InnerSpans.{spans_within}
use Rattle.pv_reach.proofs.laws.spans_within_law.Goals as goal

pub returns : goal.returns
returns c = spans_within
