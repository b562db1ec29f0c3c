use Rattle.std.proofs.Common.{arith, map, refl}
use Rattle.pv_model.specs.PlainForms.{plain_token}
use Rattle.pv_span.specs.Charts.{value_of}
use Rattle.pv_span.specs.PlainForms.{plain_chart}
use Rattle.pv_span.proofs.Flats.{spanned}
use Rattle.pv_span.proofs.LeastValues.{least_star, least_star_none}
use Rattle.pv_span.proofs.least.least_of_star.Goals as goal

pub returns-then-chart : goal.returns-then-chart
returns-then-chart c = λ f e.
    let t = c.args.chart.now in
    least_star_none f (map plain_token c.args.word.now) (value_of (plain_chart t)) c.args.number t.from t.to (spanned c.args.word.now t.tokens t.from t.to t.place c.requires.long)
    c.args.one 0 c.args.texts e c.if-chart.true refl

pub returns : goal.returns
returns c = λ f e.
    let t = c.args.chart.now in
    least_star f (map plain_token c.args.word.now) (value_of (plain_chart t)) c.args.number t.from t.to (spanned c.args.word.now t.tokens t.from t.to t.place c.requires.long)
    c.args.one c.least_behind.result c.behind_text-text.result (let n = c.if-chart.false in let p = t.place.0 in omega arith) c.least_behind.ensures
    c.min.result c.args.texts e c.behind_text-text.ensures c.min.ensures
