use Rattle.pv_chars.proofs.UnitPlaceLemmas.{front_found, front_all}
use Rattle.pv_chars.proofs.unit_places.before_ampersand.Goals as goal

pub returns-in-Some : goal.returns-in-Some
returns-in-Some c = front_found c.args.bytes.now c.in-Some.before.now c.in-Some.field-0-1.now c.in-Some.ensures

pub returns-in-None : goal.returns-in-None
returns-in-None c = front_all c.args.bytes.now c.in-None.ensures
