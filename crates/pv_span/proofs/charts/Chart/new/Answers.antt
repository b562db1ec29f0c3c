use Rattle.std.specs.Vec.{with_items}
use Rattle.std.proofs.Common.{arith, ◌-◌, ◌≡◌}
use Rattle.std.proofs.lemmas.List.{with_items_is}
use Rattle.pv_span.specs.DoneSpans.{rows_done}
use Rattle.pv_span.proofs.LineFacts.{forgotten}
use Rattle.pv_span.proofs.SpanNumbers.{few_in_all}
use Rattle.pv_span.proofs.charts.Chart.new.Goals as goal

pub overflow_add-spans : goal.overflow_add-spans
overflow_add-spans c = let h = few_in_all c.args.tokens c.span_number-spans.result c.requires c.span_number-spans.ensures in omega arith

pub new-requires : goal.new-requires
new-requires c = (few_in_all c.args.tokens c.span_number-spans.result c.requires c.span_number-spans.ensures).0

pub invariant_of-result-clause-spans : goal.invariant_of-result-clause-spans
invariant_of-result-clause-spans c =
    let e = c.in_ok-done.ensures.spans in let h = few_in_all c.args.tokens c.span_number-spans.result c.requires c.span_number-spans.ensures in omega arith

pub invariant_of-result-clause-next : goal.invariant_of-result-clause-next
invariant_of-result-clause-next c = λ l. let e = c.in_ok-done.ensures.count in let z : c.args.tokens - c.args.tokens ≡ 0 = omega arith in rw z (omega arith)

pub invariant_of-result-clause-lined : goal.invariant_of-result-clause-lined
invariant_of-result-clause-lined c =
    let e : (with_items c.args.lines c.forget_lines.new.lines).items ≡ c.forget_lines.new.lines =
    with_items_is c.args.lines _ (let l = c.forget_lines.auto.lines in let m = c.deref_mut.ensures.len in omega arith) in
    ∣ rw e (forgotten c.args.tokens c.args.tokens (rows_done c.in_ok-done.done) c.forget_lines.new.lines c.forget_lines.ensures) ∣₁
