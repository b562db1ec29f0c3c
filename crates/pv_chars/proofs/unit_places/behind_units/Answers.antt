use Rattle.std.proofs.Common.{◌∙◌}
use Rattle.pv_chars.proofs.UnitPlaceLemmas.{each_byte}
use Rattle.pv_chars.proofs.unit_places.behind_units.Goals as goal

pub returns-then-all-bytes : goal.returns-then-all-bytes
returns-then-all-bytes c = c.split_at.ensures.back ∙ each_byte c.args.bytes.now c.args.all c.args.count c.requires.units c.if-all-bytes.true
