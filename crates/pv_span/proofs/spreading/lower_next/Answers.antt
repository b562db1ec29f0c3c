use Rattle.std.proofs.Common.{arith, map, refl}
use Rattle.std.proofs.lemmas.List.{length-map}
use Rattle.pv_model.specs.PlainForms.{plain_token}
use Rattle.pv_layout.specs.FormForms.{plain_all}
use Rattle.pv_span.specs.Waits.{HaveFallen}
use Rattle.pv_span.proofs.WaitingColumns.{none_fallen, one_fallen}
use Rattle.pv_span.proofs.Spreads.{few_held, next_held, no_held}
use Rattle.pv_span.proofs.spreading.lower_next.Goals as goal

pub returns-then-number-forms-clause-fallen : goal.returns-then-number-forms-clause-fallen
returns-then-number-forms-clause-fallen c = none_fallen c.args.waiting.now c.args.waiting.now (λ d x. x) refl c.args.chart.now.row.items c.args.chart.now.row.items refl

pub returns-then-number-forms-clause-held : goal.returns-then-number-forms-clause-held
returns-then-number-forms-clause-held c =
    no_held (plain_all c.args.forms.now) (map plain_token c.args.word.now) c.args.chart.now
    c.args.waiting.now c.args.number c.args.source.now.value
    (let l = c.if-number-forms.true in simp length-map (omega arith))

pub returns-then-value_at-source-clause-fallen : goal.returns-then-value_at-source-clause-fallen
returns-then-value_at-source-clause-fallen c = none_fallen c.args.waiting.now c.args.waiting.now (λ d x. x) refl c.args.chart.now.row.items c.args.chart.now.row.items refl

pub returns-then-value_at-source-clause-held : goal.returns-then-value_at-source-clause-held
returns-then-value_at-source-clause-held c =
    let t = c.args.chart.now in
    few_held (plain_all c.args.forms.now) (map plain_token c.args.word.now) t c.args.waiting.now c.args.number c.args.source.now.value c.requires.attained
    (let u = rw c.deref.ensures.value at c.value_at.ensures in let l = c.if-value_at-source.true in omega arith)

pub returns-then-not-lower_from-clause-fallen : goal.returns-then-not-lower_from-clause-fallen
returns-then-not-lower_from-clause-fallen c =
    none_fallen c.args.waiting.now c.args.waiting.now (λ d x. x) refl c.args.chart.now.row.items c.lower_from.new.chart.row.items (c.lower_from.ensures.lowered.lowered.kept c.if-not-lower_from.true).1

pub returns-then-not-lower_from-clause-held : goal.returns-then-not-lower_from-clause-held
returns-then-not-lower_from-clause-held c =
    let t = c.args.chart.now in
    let f : HaveFallen c.args.waiting.now c.args.waiting.now t.row.items c.lower_from.new.chart.row.items =
    none_fallen c.args.waiting.now c.args.waiting.now (λ d x. x) refl t.row.items c.lower_from.new.chart.row.items (c.lower_from.ensures.lowered.lowered.kept c.if-not-lower_from.true).1 in
    next_held (plain_all c.args.forms.now) (map plain_token c.args.word.now) t.from t.to t c.lower_from.new.chart c.requires.attained c.lower_from.ensures.attained refl refl c.lower_from.ensures.same
    c.args.waiting.now c.args.waiting.now f c.args.number c.args.source.now.value
    c.lower_from.result (let l = c.if-number-forms.false in let a = c.requires.attained.is_row
    in let n = simp length-map at a in omega arith) c.lower_from.ensures.lowered

pub returns-clause-fallen : goal.returns-clause-fallen
returns-clause-fallen c =
    let t = c.args.chart.now in
    one_fallen c.args.waiting.now c.push.new.self c.push.ensures.kept c.push.ensures.long t.row.items c.lower_from.new.chart.row.items c.args.number _ c.lower_from.result
    (let l = c.if-number-forms.false in let a = c.requires.attained.is_row in let n = simp length-map at a in omega arith) c.lower_from.ensures.lowered.lowered c.push.ensures.waits

pub returns-clause-held : goal.returns-clause-held
returns-clause-held c =
    let t = c.args.chart.now in
    let f : HaveFallen c.args.waiting.now c.push.new.self t.row.items c.lower_from.new.chart.row.items =
    one_fallen c.args.waiting.now c.push.new.self c.push.ensures.kept c.push.ensures.long t.row.items c.lower_from.new.chart.row.items c.args.number _ c.lower_from.result
    (let l = c.if-number-forms.false in let a = c.requires.attained.is_row in let n = simp length-map at a in omega arith) c.lower_from.ensures.lowered.lowered c.push.ensures.waits in
    next_held (plain_all c.args.forms.now) (map plain_token c.args.word.now) t.from t.to t c.lower_from.new.chart c.requires.attained c.lower_from.ensures.attained refl refl c.lower_from.ensures.same
    c.args.waiting.now c.push.new.self f c.args.number c.args.source.now.value c.lower_from.result
    (let l = c.if-number-forms.false in let a = c.requires.attained.is_row in let n = simp
    length-map at a in omega arith) c.lower_from.ensures.lowered
