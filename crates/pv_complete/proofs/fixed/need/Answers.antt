use Rattle.std.proofs.lemmas.Result.{IfErr-weaker, IfOk-weaker}
use Rattle.pv_productive.specs.PlainForms.{dtd_of}
use Rattle.pv_complete.proofs.fixed.need.Goals as goal

pub need_under-requires : goal.need_under-requires
need_under-requires c = c.none-known.ensures (dtd_of c.in_ok-layout.layout.grammar.now)

pub returns-clause-needs : goal.returns-clause-needs
returns-clause-needs c = IfOk-weaker c.need_under.result _ _ (λ n needs. needs c.in_ok-verdicts.ensures.verdicts) (rw c.in_ok-layout.ensures at c.need_under.ensures.needs)

pub returns-clause-refused : goal.returns-clause-refused
returns-clause-refused c = IfErr-weaker c.need_under.result _ _ (λ e why. why c.in_ok-verdicts.ensures.verdicts) (rw c.in_ok-layout.ensures at c.need_under.ensures.refused)
