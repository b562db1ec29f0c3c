use Rattle.std.proofs.Common.{map}
use Rattle.std.proofs.lemmas.Bool.{ltb-true}
use Rattle.pv_model.specs.PlainForms.{plain_token}
use Rattle.pv_span.proofs.OtherColumns.{element_told, never_told, nothing_told, one_told, opt_told}
use Rattle.pv_span.proofs.spreading.is_told_by_others.Goals as goal

pub returns-in-Never : goal.returns-in-Never
returns-in-Never c = λ t.
    let s = c.args.chart.now in
    rw c.in-Never.is (never_told (map plain_token c.args.word.now) s.from s.to)

pub returns-in-Element : goal.returns-in-Element
returns-in-Element c = λ t.
    let s = c.args.chart.now in
    rw c.in-Element.is (element_told (map plain_token c.args.word.now) s.from s.to
    c.in-Element.id.0 c.in-Element.field-1
    (λ g e. let z = c.is_element_over.ensures.1 (g, e) in absurd (let y = rw z at t in cc)))

pub returns-in-Nothing : goal.returns-in-Nothing
returns-in-Nothing c = λ t.
    let s = c.args.chart.now in
    rw c.in-Nothing.is (nothing_told (map plain_token c.args.word.now) s.from s.to
    (ltb-true s.from s.to t))

pub returns-in-OneOf : goal.returns-in-OneOf
returns-in-OneOf c = λ t.
    let s = c.args.chart.now in
    rw c.in-OneOf.is (one_told (map plain_token c.args.word.now) s.from s.to
    c.in-OneOf.field-0.items)

pub returns-in-Opt : goal.returns-in-Opt
returns-in-Opt c = λ t.
    let s = c.args.chart.now in
    rw c.in-Opt.is (opt_told (map plain_token c.args.word.now) s.from s.to c.in-Opt.field-0
    (ltb-true s.from s.to t))
