use Rattle.pv_span.proofs.repeats.Repeats.covers.Goals as goal

pub returns : goal.returns
returns c = λ t. record {
  from = c.if-self-chart.false;
  few = c.if-chart-self.false;
  done = c.is_done_from.ensures t;
}
