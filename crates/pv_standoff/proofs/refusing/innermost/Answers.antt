use Rattle.std.proofs.Common.{◌∙◌, ap, subst}
use Rattle.pv_standoff.specs.Stacks.{AreStillOpen}
use Rattle.pv_standoff.specs.PlainForms.{innermost_first}
use Rattle.pv_standoff.proofs.FirstCrossing.{covers_pop, stack_push}
use Rattle.pv_standoff.proofs.refusing.innermost.Goals as goal

pub ended-preserved : goal.ended-preserved
ended-preserved c = λ done h.
    let o = ap innermost_first c.in-Some.ensures.items ∙ stack_push c.pop.new.self.items c.in-Some.top in
    covers_pop c.args.from done c.in-Some.top.now (innermost_first c.pop.new.self.items) (subst (AreStillOpen c.args.from done) o (c.ended.invariant done h)) c.if-top-from.false
