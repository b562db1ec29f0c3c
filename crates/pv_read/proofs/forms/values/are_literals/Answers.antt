use Rattle.std.proofs.Common.{refl, sym, ◌∙◌}
use Rattle.pv_read.proofs.Cuts.{simple_literals, literals_where, not_literals, holds_found}
use Rattle.pv_chars.proofs.DelimiterPlaces.{byte_nowhere}
use Rattle.pv_read.proofs.forms.values.are_literals.Goals as goal

pub returns-in-Some : goal.returns-in-Some
returns-in-Some c =
    let found = c.in-Some.ensures in
    not_literals c.args.bytes.now (holds_found 60 c.args.bytes.now c.in-Some.field-0 found.1 found.0)

pub returns-in-None : goal.returns-in-None
returns-in-None c = literals_where c.args.bytes.now c.are_chars.result (byte_nowhere 60 c.args.bytes.now c.in-None.ensures) c.requires c.are_chars.ensures

pub returns-then-are_simple : goal.returns-then-are_simple
returns-then-are_simple c = ((λ t. simple_literals c.args.bytes.now (sym c.are_simple.ensures ∙ c.if-are_simple.true)), (λ all. refl))
