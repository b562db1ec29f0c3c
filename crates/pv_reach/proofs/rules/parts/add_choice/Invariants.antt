use Rattle.std.proofs.Common.{◌-◌}
use Rattle.pv_productive.specs.PlainForms.{dtd_of}
use Rattle.pv_reach.proofs.PartRules.{IsPassed}
use Rattle.pv_reach.proofs.rules.parts.add_choice.Given as goal

abbrev pub invariant-loop-member : goal.invariant-loop-member
invariant-loop-member l = IsPassed (dtd_of l.grammar) l.number l.end l.initial.rules.items l.rules.items l.member

abbrev pub decreases-loop-member : goal.decreases-loop-member
decreases-loop-member l = l.end - l.member
