use Rattle.pv_productive.specs.PlainForms.{dtd_of}
use Rattle.pv_reach.specs.AddedRules.{LaysOutParts}
use Rattle.pv_reach.proofs.rules.contents.add_parts.Given as goal

abbrev pub invariant-loop-number : goal.invariant-loop-number
invariant-loop-number l = LaysOutParts (dtd_of l.grammar) l.initial.rules.items l.rules.items l.number l.end
