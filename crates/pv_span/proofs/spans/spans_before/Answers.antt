use Rattle.std.proofs.Common.{arith}
use Rattle.pv_span.proofs.SpanNumbers.{few_spans, halved}
use Rattle.pv_span.proofs.spans.spans_before.Goals as goal

pub returns : goal.returns
returns c = record { number = halved c.args.places; small = let e = halved c.args.places in let l = few_spans c.args.places c.requires in omega arith }
