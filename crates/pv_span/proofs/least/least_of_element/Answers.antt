use Rattle.std.proofs.Common.{arith, map, refl}
use Rattle.pv_model.specs.PlainForms.{plain_token}
use Rattle.pv_span.specs.Charts.{value_of}
use Rattle.pv_span.specs.PlainForms.{plain_chart}
use Rattle.pv_span.proofs.Flats.{spanned}
use Rattle.pv_span.proofs.LeastValues.{least_kept, least_new}
use Rattle.pv_span.proofs.least.least_of_element.Goals as goal

pub returns-then-is_element_over : goal.returns-then-is_element_over
returns-then-is_element_over c = λ f e.
    let t = c.args.chart.now in
    let k = rw c.if-is_element_over.true at c.is_element_over.ensures in
    least_kept f (map plain_token c.args.word.now) (value_of (plain_chart t)) c.args.number t.from t.to (spanned c.args.word.now t.tokens t.from t.to t.place c.requires.long)
    c.args.id.0 c.args.content 0 e (k.0 refl).0 (k.0 refl).1 refl

pub returns-else-is_element_over : goal.returns-else-is_element_over
returns-else-is_element_over c = λ f e.
    let t = c.args.chart.now in
    let k = rw c.if-is_element_over.false at c.is_element_over.ensures in
    least_new f (map plain_token c.args.word.now) (value_of (plain_chart t)) c.args.number t.from t.to (spanned c.args.word.now t.tokens t.from t.to t.place c.requires.long)
    c.args.id.0 c.args.content _ e (λ a b. let z = k.1 (a, b) in absurd cc) (let u = c.from.ensures in let v = c.here.ensures in omega arith)
