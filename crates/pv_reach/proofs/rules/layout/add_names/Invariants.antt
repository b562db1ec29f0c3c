use Rattle.std.proofs.Common.{◌<◌}
use Rattle.pv_productive.specs.PlainForms.{dtd_of}
use Rattle.pv_reach.specs.AddedRules.{LaysOutNames}
use Rattle.pv_reach.proofs.rules.layout.add_names.Given as goal

abbrev pub invariant-loop-name : goal.invariant-loop-name
invariant-loop-name l = LaysOutNames (dtd_of l.grammar) l.initial.rules.items l.rules.items (λ x. x < l.name)
