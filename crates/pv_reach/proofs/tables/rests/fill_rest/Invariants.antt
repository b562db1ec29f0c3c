use Rattle.pv_productive.specs.PlainForms.{dtd_of}
use Rattle.pv_reach.proofs.MemberRows.{IsFilled}
use Rattle.pv_reach.proofs.tables.rests.fill_rest.Given as goal

abbrev pub invariant-loop-from : goal.invariant-loop-from
invariant-loop-from l = IsFilled (dtd_of l.grammar) l.ends l.rests l.number l.from
