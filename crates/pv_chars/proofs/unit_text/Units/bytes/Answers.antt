use Rattle.std.proofs.Common.{ap, sym, subst, ◌∙◌}
use Rattle.pv_chars.specs.Texts.{joined}
use Rattle.pv_chars.specs.Units.{AllUnits}
use Rattle.pv_chars.proofs.MeansLemmas.{cut_is}
use Rattle.pv_chars.proofs.unit_text.Units.bytes.Goals as goal

pub returns-clause-value : goal.returns-clause-value
returns-clause-value c = c.as_slice.ensures.value ∙ c.self.invariant.whole ∙ ap joined (sym (cut_is c.self.inside.bytes.items c.self.inside.count c.self.invariant) ∙ c.self.view_is)

pub returns-clause-legal : goal.returns-clause-legal
returns-clause-legal c = subst AllUnits (sym (cut_is c.self.inside.bytes.items c.self.inside.count c.self.invariant) ∙ c.self.view_is) c.self.invariant.are_units
