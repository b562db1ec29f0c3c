use Rattle.std.proofs.Common.{length, ap, sym, ◌∙◌}
use Rattle.pv_chars.proofs.MeansLemmas.{cut_is}
use Rattle.pv_chars.proofs.unit_text.Units.len.Goals as goal

pub returns-clause-value : goal.returns-clause-value
returns-clause-value c = c.self.invariant.count_is ∙ ap length (sym (cut_is c.self.inside.bytes.items c.self.inside.count c.self.invariant) ∙ c.self.view_is)
