use Rattle.std.proofs.Common.{arith}
use Rattle.std.proofs.lemmas.List.{length-map}
use Rattle.pv_dtd.proofs.ProperDtds.{proper}
use Rattle.pv_productive.specs.PlainForms.{dtd_of}
use Rattle.pv_missing.specs.PlainForms.{plain_of}
use Rattle.pv_span.proofs.PossibleWords.{possible_by_value}
use Rattle.pv_span.proofs.KnownSites.{owner_has}
use Rattle.pv_span.proofs.membership.derives.Goals as goal

pub value-requires : goal.value-requires
value-requires c =
    let l = c.in_ok-spans.ensures.values.long (plain_of c.args.owner.now.of) (owner_has c.args.owner.now) in let m = simp length-map at l in (omega arith, omega arith)

pub overflow_cast-word : goal.overflow_cast-word
overflow_cast-word c =
    let l = c.in_ok-spans.ensures.values.long (plain_of c.args.owner.now.of) (owner_has c.args.owner.now) in let m = simp length-map at l in let s = c.in_ok-spans.spans.chart.short in omega arith

pub returns : goal.returns
returns c =
    let g = c.args.owner.now.layout.now.grammar.now in
    possible_by_value (dtd_of g) c.args.word.now c.args.owner.now.of c.in_ok-spans.spans c.value.result (proper g.layout.dtd) c.requires.productive
    c.in_ok-spans.ensures.values (owner_has c.args.owner.now) (let e = c.site.ensures in let f = c.value.ensures in rw e at f)
