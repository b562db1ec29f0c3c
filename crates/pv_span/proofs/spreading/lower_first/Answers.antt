use Rattle.std.proofs.Common.{arith, map, refl}
use Rattle.std.proofs.lemmas.List.{length-map}
use Rattle.pv_model.specs.PlainForms.{plain_token}
use Rattle.pv_layout.specs.FormForms.{plain_all}
use Rattle.pv_span.specs.PlainForms.{plain_chart}
use Rattle.pv_span.specs.Waits.{HaveFallen, Waits}
use Rattle.pv_span.proofs.WaitingColumns.{none_fallen, one_fallen, others_held}
use Rattle.pv_layout.proofs.ProgramColumns.{form_read}
use Rattle.pv_span.proofs.Spreads.{first_held}
use Rattle.pv_span.proofs.spreading.lower_first.Goals as goal

pub returns-then-is_told_by_others-clause-fallen : goal.returns-then-is_told_by_others-clause-fallen
returns-then-is_told_by_others-clause-fallen c = none_fallen c.args.waiting.now c.args.waiting.now (λ d x. x) refl c.args.chart.now.row.items c.args.chart.now.row.items refl

pub returns-then-is_told_by_others-clause-held : goal.returns-then-is_told_by_others-clause-held
returns-then-is_told_by_others-clause-held c =
    let t = c.args.chart.now in
    let h = c.is_told_by_others.ensures c.if-is_told_by_others.true in
    let e = form_read c.args.forms.now c.args.number c.index-forms-number.result c.requires.number
    c.index-forms-number.is in
    others_held (plain_all c.args.forms.now) (map plain_token c.args.word.now) t.from t.to
    (plain_chart t) c.requires.attained (Waits c.args.waiting.now) c.args.number (rw e h)
    c.requires.wait

pub returns-then-not-lower_one-clause-fallen : goal.returns-then-not-lower_one-clause-fallen
returns-then-not-lower_one-clause-fallen c =
    none_fallen c.args.waiting.now c.args.waiting.now (λ d x. x) refl c.args.chart.now.row.items c.lower_one.new.chart.row.items (c.lower_one.ensures.lowered.lowered.kept c.if-not-lower_one.true).1

pub returns-then-not-lower_one-clause-held : goal.returns-then-not-lower_one-clause-held
returns-then-not-lower_one-clause-held c =
    let t = c.args.chart.now in
    let f : HaveFallen c.args.waiting.now c.args.waiting.now t.row.items c.lower_one.new.chart.row.items =
    none_fallen c.args.waiting.now c.args.waiting.now (λ d x. x) refl t.row.items c.lower_one.new.chart.row.items (c.lower_one.ensures.lowered.lowered.kept c.if-not-lower_one.true).1 in
    first_held (plain_all c.args.forms.now) (map plain_token c.args.word.now) t.from t.to t c.lower_one.new.chart c.requires.attained c.lower_one.ensures.attained refl refl c.lower_one.ensures.same
    c.args.waiting.now c.args.waiting.now f c.args.number c.lower_one.result
    (let l = c.requires.number in let a = c.requires.attained.is_row in let n = simp length-map
    at a in omega arith) c.lower_one.ensures.lowered

pub returns-clause-fallen : goal.returns-clause-fallen
returns-clause-fallen c =
    let t = c.args.chart.now in
    one_fallen c.args.waiting.now c.push.new.self c.push.ensures.kept c.push.ensures.long t.row.items c.lower_one.new.chart.row.items c.args.number _ c.lower_one.result
    (let l = c.requires.number in let a = c.requires.attained.is_row in let n = simp length-map at a in omega arith) c.lower_one.ensures.lowered.lowered c.push.ensures.waits

pub returns-clause-held : goal.returns-clause-held
returns-clause-held c =
    let t = c.args.chart.now in
    let f : HaveFallen c.args.waiting.now c.push.new.self t.row.items c.lower_one.new.chart.row.items =
    one_fallen c.args.waiting.now c.push.new.self c.push.ensures.kept c.push.ensures.long t.row.items c.lower_one.new.chart.row.items c.args.number _ c.lower_one.result
    (let l = c.requires.number in let a = c.requires.attained.is_row in let n = simp length-map at a in omega arith) c.lower_one.ensures.lowered.lowered c.push.ensures.waits in
    first_held (plain_all c.args.forms.now) (map plain_token c.args.word.now) t.from t.to t c.lower_one.new.chart c.requires.attained c.lower_one.ensures.attained refl refl c.lower_one.ensures.same
    c.args.waiting.now c.push.new.self f c.args.number c.lower_one.result
    (let l = c.requires.number in let a = c.requires.attained.is_row in let n = simp length-map
    at a in omega arith) c.lower_one.ensures.lowered
