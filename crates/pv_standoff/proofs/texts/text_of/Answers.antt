use Rattle.pv_chars.specs.Units.{units_in}
use Rattle.pv_standoff.proofs.TextLemmas.{text_only}
use Rattle.pv_standoff.proofs.texts.text_of.Goals as goal

pub returns : goal.returns
returns c = text_only c.args.bytes.now (units_in c.args.bytes.now) c.in-Ok.units c.requires.some c.requires.units c.in-Ok.ensures
