use Rattle.std.proofs.Common.{◌-◌}
use Rattle.pv_rules.specs.Sites.{part_site}
use Rattle.pv_rules.proofs.Members.{HavePassed}
use Rattle.pv_productive.specs.PlainForms.{dtd_of}
use Rattle.pv_denial.specs.RowForms.{HoldsOneSide}
use Rattle.pv_denial.proofs.rules.choice_holds.Given as goal

abbrev pub invariant-loop-member : goal.invariant-loop-member
invariant-loop-member l = HavePassed (dtd_of l.grammar) l.number l.end (λ r. HoldsOneSide l.barrier (part_site l.number) (part_site r) l.tokens) l.member

abbrev pub decreases-loop-member : goal.decreases-loop-member
decreases-loop-member l = l.end - l.member
