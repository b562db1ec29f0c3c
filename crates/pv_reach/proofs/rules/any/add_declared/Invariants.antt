use Rattle.pv_productive.specs.PlainForms.{dtd_of}
use Rattle.pv_reach.specs.AddedRules.{AddsDeclared}
use Rattle.pv_reach.proofs.rules.any.add_declared.Given as goal

abbrev pub invariant-loop-name : goal.invariant-loop-name
invariant-loop-name l = AddsDeclared (dtd_of l.grammar) l.initial.rules.items l.rules.items l.name
