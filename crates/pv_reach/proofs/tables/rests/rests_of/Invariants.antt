use Rattle.pv_productive.specs.PlainForms.{dtd_of}
use Rattle.pv_reach.specs.ReachedPlaces.{AreRests}
use Rattle.pv_reach.proofs.tables.rests.rests_of.Given as goal

abbrev pub invariant-loop-number : goal.invariant-loop-number
invariant-loop-number l = AreRests (dtd_of l.grammar) l.ends l.rests.items l.number
