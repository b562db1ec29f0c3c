use Rattle.pv_productive.specs.PlainForms.{dtd_of}
use Rattle.pv_many.proofs.missing.Missing.by.Goals as goal

pub invariant_of-result : goal.invariant_of-result
invariant_of-result g c = c.nothing-remembered.ensures (dtd_of c.args.planner)
