use Rattle.std.proofs.Common.{◌∙◌}
use Rattle.pv_compare.proofs.Wants.{no-byte-at}
use Rattle.pv_compare.proofs.wanted.Wanted.take_byte.Goals as goal

pub returns-in_default : goal.returns-in_default
returns-in_default c = λ more is. no-byte-at c.open_text.new.self.text.now c.open_text.new.self.events.now _ more c.in_default.len_below c.open_text.ensures.front (c.open_text.ensures.same ∙ is)
