use Rattle.std.proofs.Common.{ap, arith, length}
use Rattle.pv_layout.proofs.layout.lay_out.Goals as goal

pub invariant_of-result-clause-fit : goal.invariant_of-result-clause-fit
invariant_of-result-clause-fit c = ∣ c.in_ok-sites.ensures.fit ∣₁

pub of-requires : goal.of-requires
of-requires c =
    let few = c.in_ok-sites.ensures.few in let v = ap length c.deref.ensures.value in omega arith

pub invariant_of-result-clause-told : goal.invariant_of-result-clause-told
invariant_of-result-clause-told c = ∣ rw c.deref.ensures.value at c.in_ok-mentions.ensures ∣₁
