use Rattle.std.proofs.lemmas.Result.{err_from_is_err_and}
use Rattle.std.proofs.Common.{length, ◌-◌, arith}
use Rattle.pv_chars.proofs.MeansLemmas.{unit_more, units_end, units_fault, more_shorter, is_nothing}
use Rattle.pv_chars.proofs.unit_text.count_units.Goals as goal

pub returns-in_err-rest : goal.returns-in_err-rest
returns-in_err-rest c =
    let p = err_from_is_err_and c.from_residual.result c.from_residual.ensures.1 in
    let bytes = c.args.bytes.now in
    let rest = c.units.rest.now in
    rw (p.1, p.2) (units_fault bytes rest c.units.count (length bytes - length rest) c.in_err-rest.field-0.0 c.units.invariant (omega (arith, c.units.invariant.short)) c.in_err-rest.ensures)

pub units-smaller : goal.units-smaller
units-smaller c = more_shorter c.units.rest.now c.in_ok-rest.rest.now c.in_ok-rest.ensures

pub units-preserved : goal.units-preserved
units-preserved c = unit_more c.args.bytes.now c.units.rest.now c.in_ok-rest.rest.now c.units.count c.units.invariant c.in_ok-rest.ensures

pub returns : goal.returns
returns c = units_end c.args.bytes.now c.units.rest.now c.units.count c.units.invariant (is_nothing c.units.rest.now c.is_empty.result c.is_empty.ensures c.units-test.false)
