use Rattle.pv_productive.specs.PlainForms.{dtd_of}
use Rattle.pv_reach.specs.AddedRules.{AddsListed}
use Rattle.pv_reach.proofs.rules.contents.add_listed.Given as goal

abbrev pub invariant-loop-number : goal.invariant-loop-number
invariant-loop-number l = AddsListed (dtd_of l.grammar) l.initial.rules.items l.rules.items l.name l.first l.number
