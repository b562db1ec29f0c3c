use Rattle.pv_chars.proofs.LastUnits.{last_character, last_reference, last_semicolon}
use Rattle.pv_chars.proofs.last_units.before_unit.Goals as goal

pub returns-then-first-ne59 : goal.returns-then-first-ne59
returns-then-first-ne59 c = last_character c.args.bytes.now c.last_opening-first.result.0.now
    c.last_opening-first.result.1 c.last_opening-first.ensures c.requires.closed
    c.if-first-ne59.true

pub returns-in-Some : goal.returns-in-Some
returns-in-Some c = last_reference c.args.bytes.now c.last_opening-first.result.0.now
    c.in-Some.before.now c.last_opening-first.result.1 c.last_opening-first.ensures
    c.in-Some.ensures c.requires.nests_none c.if-first-ne59.false

pub returns-in-None : goal.returns-in-None
returns-in-None c = last_semicolon c.args.bytes.now c.last_opening-first.result.0.now
    c.last_opening-first.result.1 c.last_opening-first.ensures c.in-None.ensures
    c.if-first-ne59.false
