use Rattle.std.proofs.Common.{refl}
use Rattle.pv_chars.proofs.UnitReading.{no_reference}
use Rattle.pv_chars.proofs.unit_text.after_reference.Goals as goal

pub returns-in_default-entity_ref_at : goal.returns-in_default-entity_ref_at
returns-in_default-entity_ref_at c = (refl, record { more = c.requires.0; whole = c.requires.1; none = no_reference c.args.bytes.now c.in_default.ensures c.in_default-entity_ref_at.ensures })
